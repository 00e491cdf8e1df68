use Rattle.std.proofs.Common.{◌≡◌, ◌≤◌, ◌+◌, ◌*◌, ◌++◌, length, take}
use Rattle.schedule.specs.laws.Numbers.{all_spaced}
use Rattle.schedule.proofs.text.Line.numbers.Given as goal

abbrev pub invariant-loop-n : goal.invariant-loop-n
invariant-loop-n l = record {
  pieces : l.self ≡ l.initial.self ++ all_spaced (take l.n-index l.numbers);
  short : length l.self ≤ length l.initial.self + 21 * l.n-index;
}
