-- What a complaint prints.
--   place_text       where the cause stands
--   complaint_text   the line that says why
use Rattle.std.specs.Prelude.{ℕ, List, ◌++◌, codes, decimal}
use Rattle.complaints.specs.declared.Place.{Place}
use Rattle.complaints.specs.declared.Place.TheVariants.{Argument, Line, Other}
use Rattle.complaints.specs.declared.Complaint.{Complaint}
use Rattle.complaints.specs.declared.Complaint.TheVariants.{Unfit, Refused}

abbrev pub place_text : Place → List ℕ
place_text (Argument place) = codes "argument " ++ decimal place
place_text (Line place) = codes "line " ++ decimal place
place_text (Other kind place) = kind.now ++ codes " " ++ decimal place

abbrev pub complaint_text : Complaint → List ℕ
complaint_text (Unfit place wanted found) = place_text place ++ codes " is to be " ++ wanted.now ++ codes ", and is '" ++ found.now ++ codes "'"
complaint_text (Refused refusal place rule) = codes "refusal " ++ decimal refusal.number ++ codes " at " ++ place_text place ++ codes ": " ++ rule.now
