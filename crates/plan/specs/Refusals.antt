-- The number of each refusal, the values that it brings, and what it means.
use Rattle.std.specs.Prelude.{ℕ, List, [], ◌∷◌, codes}
use Rattle.automata.specs.Drawing.{Report}
use Rattle.plan.specs.declared.refusal.Refusal.{Refusal}
use Rattle.plan.specs.declared.refusal.Refusal.TheVariants.{NoSuchSide, SideFull, NoSuchState, NoSuchCommand, RunBufferShort, NotReflexive, NotTransitive, EndNotKept, ArrowNotMatched, CommandCount, NotCompared, ComparisonFailed, ComparisonFull, OrderLength, EmptyFile, Truncated, UnknownKind, WrongLength, MisplacedHead, OutOfRange, NotAscending, BufferShort}

abbrev pub number_of : Refusal → ℕ
number_of NoSuchSide = 1
number_of SideFull = 2
number_of NoSuchState = 3
number_of NoSuchCommand = 4
number_of RunBufferShort = 5
number_of (NotReflexive p) = 6
number_of (NotTransitive p q r) = 7
number_of (EndNotKept p r) = 8
number_of (ArrowNotMatched p r c t) = 9
number_of CommandCount = 10
number_of NotCompared = 11
number_of ComparisonFailed = 12
number_of ComparisonFull = 13
number_of OrderLength = 14
number_of EmptyFile = 15
number_of (Truncated o) = 16
number_of (UnknownKind o) = 17
number_of (WrongLength o) = 18
number_of (MisplacedHead o) = 19
number_of (OutOfRange o) = 20
number_of (NotAscending o) = 21
number_of (BufferShort n) = 22

-- the states, command and target of a broken law of an order; the place of a fault in a file; the length needed
abbrev pub values_of : Refusal → List ℕ
values_of NoSuchSide = []
values_of SideFull = []
values_of NoSuchState = []
values_of NoSuchCommand = []
values_of RunBufferShort = []
values_of (NotReflexive p) = p ∷ []
values_of (NotTransitive p q r) = p ∷ q ∷ r ∷ []
values_of (EndNotKept p r) = p ∷ r ∷ []
values_of (ArrowNotMatched p r c t) = p ∷ r ∷ c ∷ t ∷ []
values_of CommandCount = []
values_of NotCompared = []
values_of ComparisonFailed = []
values_of ComparisonFull = []
values_of OrderLength = []
values_of EmptyFile = 0 ∷ []
values_of (Truncated o) = o ∷ []
values_of (UnknownKind o) = o ∷ []
values_of (WrongLength o) = o ∷ []
values_of (MisplacedHead o) = o ∷ []
values_of (OutOfRange o) = o ∷ []
values_of (NotAscending o) = o ∷ []
values_of (BufferShort n) = n ∷ []

abbrev pub report_of : Refusal → Report
report_of e = record { number = number_of e; values = values_of e }

-- what a refusal means, in a few words
abbrev pub reason_of : Refusal → List ℕ
reason_of NoSuchSide = codes "a side is 0 or 1"
reason_of SideFull = codes "the side has 32 states already"
reason_of NoSuchState = codes "no such state"
reason_of NoSuchCommand = codes "a command is at most 25"
reason_of RunBufferShort = codes "the run buffer is shorter than the usable slots"
reason_of (NotReflexive p) = codes "this state is not below itself"
reason_of (NotTransitive p q r) = codes "the first is below the second and that below the third, but not the first below the third"
reason_of (EndNotKept p r) = codes "the first is below the second and an end, but the second is no end"
reason_of (ArrowNotMatched p r c t) = codes "the first is below the second, but its arrow has no answer there"
reason_of CommandCount = codes "the number of commands is not 1 to 26"
reason_of NotCompared = codes "nothing was compared since the last drawing"
reason_of ComparisonFailed = codes "the last comparison failed"
reason_of ComparisonFull = codes "the last comparison ran out of slots"
reason_of OrderLength = codes "an order has 512 bytes"
reason_of EmptyFile = codes "the file is empty"
reason_of (Truncated place) = codes "the file ends inside the record"
reason_of (UnknownKind place) = codes "the kind is not 1 to 4"
reason_of (WrongLength place) = codes "the length is not that of the kind"
reason_of (MisplacedHead place) = codes "the first record is no head, or a later one is"
reason_of (OutOfRange place) = codes "more than 32 states, or no such state or command"
reason_of (NotAscending place) = codes "the record is not above the one before it"
reason_of (BufferShort needed) = codes "the file needs a buffer of this many bytes"
