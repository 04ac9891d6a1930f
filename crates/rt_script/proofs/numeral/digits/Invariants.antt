use Rattle.std.proofs.Common.{◌≡◌, ◌≤◌, drop}
use Rattle.rt_script.specs.Digits.{digits_upto}
use Rattle.rt_script.proofs.numeral.digits.Given as goal

abbrev pub invariant-loop-b : goal.invariant-loop-b
invariant-loop-b l = record { within : l.number ≤ l.most; rest : digits_upto l.most l.number (drop l.b-index l.word) ≡ digits_upto l.most 0 l.word }
