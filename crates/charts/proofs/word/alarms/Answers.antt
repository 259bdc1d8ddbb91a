use Rattle.std.proofs.Common.{sym, ◌∙◌, arith}
use Rattle.std.proofs.lemmas.Bool.{le-ltb}
use Rattle.charts.proofs.WordLaws.{none_past}
use Rattle.charts.proofs.word.alarms.Goals as goal

pub returns-else-leaf-lt16 : goal.returns-else-leaf-lt16
returns-else-leaf-lt16 c = le-ltb c.args.leaf 16 c.if-leaf-lt16.false ∙ sym (none_past c.args.word c.args.leaf (omega arith) c.if-leaf-lt16.false)
