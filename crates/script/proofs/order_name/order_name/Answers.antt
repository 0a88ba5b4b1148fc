use Rattle.std.proofs.Common.{sym, ap, codes, rules, arith}
use Rattle.std.proofs.lemmas.Slice.Eq.{text_from_reads}
use Rattle.script.specs.OrderNames.{order_of}
use Rattle.script.proofs.order_name.order_name.Goals as goal

pub returns-in-greatest : goal.returns-in-greatest
returns-in-greatest c = sym (ap order_of (text_from_reads c.args.word.now (codes "greatest") (omega arith) (search rules)))

pub returns-in-delivered : goal.returns-in-delivered
returns-in-delivered c = sym (ap order_of (text_from_reads c.args.word.now (codes "delivered") (omega arith) (search rules)))
