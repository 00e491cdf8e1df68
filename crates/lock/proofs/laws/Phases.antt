-- Laws of the phase numbers: which phase a number is, and cases on it. Assumes nothing.
use Rattle.std.specs.Prelude.{◌≡◌, ℕ, ◌≤◌, ◌<◌, eqb}
use Rattle.std.proofs.Common.{sym, subst, arith}
use Rattle.std.proofs.Math.Path.{ap}
use Rattle.base.specs.rules.Choice.{choose}
use Rattle.base.specs.laws.ChoiceLaws.{choose_eq, choose_ne, by_lt}
use Rattle.lock.specs.rules.Records.{Phase, idle, ticket, turn, climb, blocked, claim, notify, wait, check, held, returning, unknown, phase_of}

module _ (p : ℕ) where
  pub at_idle : p ≡ 0 → phase_of p ≡ idle
  unfolding phase_of choose
  at_idle e = ap phase_of e

  pub at_ticket : p ≡ 1 → phase_of p ≡ ticket
  unfolding phase_of choose
  at_ticket e = ap phase_of e

  pub at_turn : p ≡ 2 → phase_of p ≡ turn
  unfolding phase_of choose
  at_turn e = ap phase_of e

  pub at_climb : p ≡ 3 → phase_of p ≡ climb
  unfolding phase_of choose
  at_climb e = ap phase_of e

  pub at_blocked : p ≡ 4 → phase_of p ≡ blocked
  unfolding phase_of choose
  at_blocked e = ap phase_of e

  pub at_claim : p ≡ 5 → phase_of p ≡ claim
  unfolding phase_of choose
  at_claim e = ap phase_of e

  pub at_notify : p ≡ 6 → phase_of p ≡ notify
  unfolding phase_of choose
  at_notify e = ap phase_of e

  pub at_wait : p ≡ 7 → phase_of p ≡ wait
  unfolding phase_of choose
  at_wait e = ap phase_of e

  pub at_check : p ≡ 8 → phase_of p ≡ check
  unfolding phase_of choose
  at_check e = ap phase_of e

  pub at_held : p ≡ 9 → phase_of p ≡ held
  unfolding phase_of choose
  at_held e = ap phase_of e

  pub at_returning : p ≡ 10 → phase_of p ≡ returning
  unfolding phase_of choose
  at_returning e = ap phase_of e

-- a number that is none of those before
pub over_5 : (p : ℕ) → 1 ≤ p → (p ≡ 1 → ⊥) → (p ≡ 2 → ⊥) → (p ≡ 3 → ⊥) → (p ≡ 4 → ⊥) → (p ≡ 5 → ⊥) → 6 ≤ p
over_5 p b d1 d2 d3 d4 d5 = omega (arith, b, d1, d2, d3, d4, d5)

pub over_10 : (p : ℕ) → 6 ≤ p → (p ≡ 6 → ⊥) → (p ≡ 7 → ⊥) → (p ≡ 8 → ⊥) → (p ≡ 9 → ⊥) → (p ≡ 10 → ⊥) → 10 < p
over_10 p b d6 d7 d8 d9 d10 = omega (arith, b, d6, d7, d8, d9, d10)

-- the test of one number, where it is known that p is not below it
on_number : (P : Phase → Type 0) (p k : ℕ) (x y : Phase) → k ≤ p → (p ≡ k → P x) → (k < p → P y) → P (choose (eqb p k) x y)
on_number P p k x y b f g =
    by_lt k p (λ q. subst P (sym (choose_ne p k x y (λ e. omega arith))) (g q)) (λ q. let e : p ≡ k = omega arith in subst P (sym (choose_eq p k x y e)) (f e))

-- cases on the phase: by its number, or over 10
pub on_phase : (p : ℕ) (P : Phase → Type 0)
    → (p ≡ 0 → P idle) → (p ≡ 1 → P ticket) → (p ≡ 2 → P turn) → (p ≡ 3 → P climb) → (p ≡ 4 → P blocked) → (p ≡ 5 → P claim) → (p ≡ 6 → P notify)
    → (p ≡ 7 → P wait) → (p ≡ 8 → P check) → (p ≡ 9 → P held) → (p ≡ 10 → P returning) → (10 < p → P unknown) → P (phase_of p)
unfolding phase_of
on_phase p P f0 f1 f2 f3 f4 f5 f6 f7 f8 f9 f10 f =
    on_number P p 0 _ _ (omega arith) f0 λ b0.
    on_number P p 1 _ _ b0 f1 λ b1.
    on_number P p 2 _ _ b1 f2 λ b2.
    on_number P p 3 _ _ b2 f3 λ b3.
    on_number P p 4 _ _ b3 f4 λ b4.
    on_number P p 5 _ _ b4 f5 λ b5.
    on_number P p 6 _ _ b5 f6 λ b6.
    on_number P p 7 _ _ b6 f7 λ b7.
    on_number P p 8 _ _ b7 f8 λ b8.
    on_number P p 9 _ _ b8 f9 λ b9.
    on_number P p 10 _ _ b9 f10 f
