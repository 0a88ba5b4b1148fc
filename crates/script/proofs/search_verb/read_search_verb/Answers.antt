use Rattle.std.proofs.Common.{codes, sym, ap, rules, arith}
use Rattle.std.proofs.lemmas.Slice.Eq.{text_from_reads}
use Rattle.script.specs.SearchVerbs.{search_verb_of}
use Rattle.script.proofs.search_verb.read_search_verb.Goals as goal

pub returns-in-compare : goal.returns-in-compare
returns-in-compare c = sym (ap search_verb_of (text_from_reads c.args.word.now (codes "compare") (omega arith) (search rules)))

pub returns-in-release : goal.returns-in-release
returns-in-release c = sym (ap search_verb_of (text_from_reads c.args.word.now (codes "release") (omega arith) (search rules)))

-- `open-plan`
pub returns-in-111 : goal.returns-in-111
returns-in-111 c = sym (ap search_verb_of (text_from_reads c.args.word.now (codes "open-plan") (omega arith) (search rules)))

-- `compare-plans`
pub returns-in-99 : goal.returns-in-99
returns-in-99 c = sym (ap search_verb_of (text_from_reads c.args.word.now (codes "compare-plans") (omega arith) (search rules)))
