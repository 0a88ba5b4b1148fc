-- The guard of the code, its calls and its answers, read as those of the definitions.
use Rattle.std.specs.Prelude.{◌≡◌, ℕ, ◌-◌, List, take, drop, replicate, Ok, Err, Result}
use Rattle.plan.specs.declared.refusal.Refusal.{Refusal}
use Rattle.plan.specs.Refusals.{report_of}
use Rattle.plan.specs.Tables.{drawn}
use Rattle.order.specs.Orders.{rowed}
use Rattle.calls.specs.declared.drawing.Drawing.{Drawing}
use Rattle.calls.specs.declared.drawing.Drawing.TheVariants as drawing
use Rattle.calls.specs.Calls as calls
use Rattle.calls.specs.Plans.{Plans}
use Rattle.calls.specs.Guards as guards
use Rattle.guard.specs.declared.guard.Guard.{Guard}
use Rattle.guard.specs.declared.call.Call.{Call}
use Rattle.guard.specs.declared.call.Call.TheVariants as code
use Rattle.guard.specs.declared.call.Answer.{Answer}
use Rattle.guard.specs.declared.call.Answer.TheVariants.{Number, Done, Found, Granted, Refused}

-- the plans that a guard holds, and where it stands
abbrev pub plans_of : Guard → Plans
plans_of g = record { programme = drawn g.programme; rule = drawn g.rule }

abbrev pub guard_of : Guard → guards.Guard
guard_of g = record { plans = plans_of g; standing = g.standing }

-- a listed call
abbrev pub call_of : Call → calls.Call
call_of (code.State z) = calls.Draw z drawing.State
call_of (code.Start z s) = calls.Draw z (drawing.Start s)
call_of (code.End z s) = calls.Draw z (drawing.End s)
call_of (code.Arrow z s c t) = calls.Draw z (drawing.Arrow s c t)
call_of (code.Lift z s c t) = calls.Draw z (drawing.Lift s c t)
call_of (code.Compare t) = calls.Search calls.Compare (rowed t.order) t.slots t.bytes
call_of (code.Open k t) = calls.Search (calls.Open k) (rowed t.order) t.slots t.bytes
call_of code.Release = calls.Release

-- an answer to it
abbrev pub answer_of : Answer → calls.Answer
answer_of (Number n) = calls.numbered n
answer_of Done = calls.done
answer_of (Found v l k w) = calls.found (record { numbers = (v, l, k); run = take l w })
answer_of Granted = calls.granted
answer_of (Refused e) = calls.refused (report_of e)

-- behind the run of an answer there are zeros
abbrev pub Clear : Answer → Type 0
Clear (Number n) = Unit {0}
Clear Done = Unit {0}
Clear (Found v l k w) = drop l w ≡ replicate (4096 - l) 0
Clear Granted = Unit {0}
Clear (Refused e) = Unit {0}

-- What the calls of the guard itself hand back.

-- a new state's number
abbrev pub as_number : Result ℕ Refusal → calls.Answer
as_number (Ok n) = calls.numbered n
as_number (Err e) = calls.refused (report_of e)

-- that it was done
abbrev pub as_done : {A : Type 0} → Result A Refusal → calls.Answer
as_done (Ok x) = calls.done
as_done (Err e) = calls.refused (report_of e)

-- of any drawing: a new state's number, or that it was done
abbrev pub as_drawn : Drawing → Result ℕ Refusal → calls.Answer
as_drawn drawing.State r = as_number r
as_drawn (drawing.Start s) r = as_done r
as_drawn (drawing.End s) r = as_done r
as_drawn (drawing.Arrow s c t) r = as_done r
as_drawn (drawing.Lift s c t) r = as_done r

-- what a search found, with the run that it left in front of the buffer
abbrev pub as_found : Result (ℕ × ℕ × ℕ) Refusal → List ℕ → calls.Answer
as_found (Ok a) w = calls.found (record { numbers = a; run = take a.1 w })
as_found (Err e) w = calls.refused (report_of e)

-- that release is granted
abbrev pub as_granted : {A : Type 0} → Result A Refusal → calls.Answer
as_granted (Ok x) = calls.granted
as_granted (Err e) = calls.refused (report_of e)
