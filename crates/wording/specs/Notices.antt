-- What is answered about searches where there is no verdict to tell, in words.
use Rattle.std.specs.Prelude.{ℕ, List, codes}
use Rattle.wording.specs.declared.notice.Notice.{Notice}
use Rattle.wording.specs.declared.notice.Notice.TheVariants.{NoSearch, Granted}

abbrev pub notice_text : Notice → List ℕ
notice_text NoSearch = codes "none"
notice_text Granted = codes "granted"
