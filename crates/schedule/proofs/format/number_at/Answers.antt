-- The bytes from `at + k` on are read, the last of them first.
use Rattle.std.proofs.Common.{◌≡◌, ℕ, ◌+◌, ◌-◌, ap, ap₂, sym, ◌∙◌, arith}
use Rattle.schedule.specs.rules.Format.{little}
use Rattle.schedule.specs.laws.Little.{little_next, little_fits}
use Rattle.schedule.proofs.format.number_at.Goals as goal

pub overflow_mul-number : goal.overflow_mul-number
overflow_mul-number g c =
    let few = little_fits c.args.bytes.now (λ j. (c.type_inv.bytes j).fits) (g.row.N - c.loop-k.k) (c.args.at + c.loop-k.k) (omega arith) in
    omega (arith, c.loop-k.invariant, few)

pub overflow_add-number : goal.overflow_add-number
overflow_add-number g c =
    let few = little_fits c.args.bytes.now (λ j. (c.type_inv.bytes j).fits) (g.row.N - c.loop-k.k) (c.args.at + c.loop-k.k) (omega arith) in
    omega (arith, c.loop-k.invariant, few, (c.type_inv.bytes (c.args.at + (c.loop-k.k - 1))).fits, c.from.ensures)

pub loop-k-init : goal.loop-k-init
unfolding little
loop-k-init g c = sym (ap (λ (n : ℕ). little n c.args.bytes.now (c.args.at + g.row.N)) (let none : g.row.N - g.row.N ≡ 0 = omega arith in none))

pub loop-k-preserved : goal.loop-k-preserved
loop-k-preserved g c = omega (arith, c.loop-k.invariant, c.from.ensures, little_next c.args.bytes.now (g.row.N - c.loop-k.k) (g.row.N - (c.loop-k.k - 1)) (c.args.at + (c.loop-k.k - 1)) (c.args.at + c.loop-k.k) (omega arith) (omega arith))

pub returns : goal.returns
returns g c =
    c.loop-k.invariant
    ∙ ap (λ (k : ℕ). little (g.row.N - k) c.args.bytes.now (c.args.at + k)) (let none : c.loop-k.k ≡ 0 = omega arith in none)
    ∙ ap₂ (λ (n i : ℕ). little n c.args.bytes.now i) (let all : g.row.N - 0 ≡ g.row.N = omega arith in all) (let same : c.args.at + 0 ≡ c.args.at = omega arith in same)
