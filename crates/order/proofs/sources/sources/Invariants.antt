use Rattle.std.proofs.Common.{◌≡◌, ◌/◌, ◌%◌, length, get_or}
use Rattle.automata.proofs.Transposed.{Noted, Sourced}
use Rattle.order.proofs.sources.sources.Given as goal

abbrev pub invariant-loop-place : goal.invariant-loop-place
invariant-loop-place l = (length l.sources ≡ 1664) × Sourced l.targets l.sources l.place

abbrev pub invariant-loop-t : goal.invariant-loop-t
invariant-loop-t l = Noted l.initial.sources l.sources (get_or l.targets l.place 0) (l.place / 26) (l.place % 26) l.t-iterator.0
