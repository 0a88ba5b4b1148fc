use Rattle.std.proofs.Common.{codes, sym, ap, rules, arith}
use Rattle.std.proofs.lemmas.Slice.Eq.{text_from_reads}
use Rattle.script.specs.Verbs.{verb_of}
use Rattle.script.proofs.verb.read_verb.Goals as goal

pub returns-in-rewrite : goal.returns-in-rewrite
returns-in-rewrite c = sym (ap verb_of (text_from_reads c.args.word.now (codes "rewrite") (omega arith) (search rules)))

pub returns-in-deliver : goal.returns-in-deliver
returns-in-deliver c = sym (ap verb_of (text_from_reads c.args.word.now (codes "deliver") (omega arith) (search rules)))

-- `rank-plans`
pub returns-in-114 : goal.returns-in-114
returns-in-114 c = sym (ap verb_of (text_from_reads c.args.word.now (codes "rank-plans") (omega arith) (search rules)))

-- `test-plans`
pub returns-in-116 : goal.returns-in-116
returns-in-116 c = sym (ap verb_of (text_from_reads c.args.word.now (codes "test-plans") (omega arith) (search rules)))
