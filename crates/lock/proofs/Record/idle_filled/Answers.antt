-- `lock::Record::idle_filled` meets its contract. Assumes nothing.
use Rattle.std.proofs.Common.{◌≡◌, Bool, true, false, ◌&&◌, ◌||◌, not, ℕ, eqb, ltb, refl, sym, ap, ◌∙◌, arith, eq-eqb, ne_eqb, lt-ltb, le-ltb}
use Rattle.base.specs.laws.ChoiceLaws.{by_eq}
use Rattle.lock.specs.declared.Record.{Record}
use Rattle.lock.specs.rules.Records.{idle_with}
use Rattle.lock.specs.rules.Unreadable.{idle_filled}
use Rattle.lock.proofs.Record.idle_filled.Goals as goal

some_differs : (b0 b1 b2 b3 b4 b5 b6 b7 b8 b9 b10 b11 b12 : Bool) → not (b0 && (b1 && (b2 && (b3 && (b4 && (b5 && (b6 && (b7 && (b8 && (b9 && (b10 && (b11 && (b12))))))))))))) ≡ (not b0 || not b1 || not b2 || not b3 || not b4 || not b5 || not b6 || not b7 || not b8 || not b9 || not b10 || not b11 || not b12)
some_differs false b1 b2 b3 b4 b5 b6 b7 b8 b9 b10 b11 b12 = refl
some_differs true false b2 b3 b4 b5 b6 b7 b8 b9 b10 b11 b12 = refl
some_differs true true false b3 b4 b5 b6 b7 b8 b9 b10 b11 b12 = refl
some_differs true true true false b4 b5 b6 b7 b8 b9 b10 b11 b12 = refl
some_differs true true true true false b5 b6 b7 b8 b9 b10 b11 b12 = refl
some_differs true true true true true false b6 b7 b8 b9 b10 b11 b12 = refl
some_differs true true true true true true false b7 b8 b9 b10 b11 b12 = refl
some_differs true true true true true true true false b8 b9 b10 b11 b12 = refl
some_differs true true true true true true true true false b9 b10 b11 b12 = refl
some_differs true true true true true true true true true false b10 b11 b12 = refl
some_differs true true true true true true true true true true false b11 b12 = refl
some_differs true true true true true true true true true true true false b12 = refl
some_differs true true true true true true true true true true true true false = refl
some_differs true true true true true true true true true true true true true = refl

-- the fields beside phase and outcome, of two records
abbrev others : Record → Record → Bool
others r d = eqb r.left d.left && (eqb r.right d.right && (eqb r.first d.first && (eqb r.second d.second && (eqb r.current d.current && (eqb r.giving d.giving && (eqb r.grip d.grip && (eqb r.ticket d.ticket && (eqb r.place d.place && (eqb r.notices d.notices && (eqb r.t1 d.t1 && (eqb r.t0 d.t0 && (eqb r.taken d.taken))))))))))))

zero_test : (n : ℕ) → not (eqb n 0) ≡ ltb 0 n
zero_test n = by_eq n 0 (λ e. ap not (eq-eqb n 0 e) ∙ sym (le-ltb 0 n (omega (arith, e)))) (λ d. ap not (ne_eqb n 0 d) ∙ sym (lt-ltb 0 n (omega (arith, d))))

pub returns : goal.returns
unfolding idle_filled
returns c =
    let r = c.args.self in
    let rest = others r (idle_with r.outcome) in
    ap not (c.eq.ensures ∙ ap (λ (d : Record). eqb r.phase d.phase && (eqb r.outcome d.outcome && others r d)) c.idle_with.ensures)
    ∙ ap (λ (b : Bool). not (b && (eqb r.outcome r.outcome && rest))) (eq-eqb r.phase 0 c.requires)
    ∙ ap (λ (b : Bool). not (b && rest)) (eq-eqb r.outcome r.outcome refl)
    ∙ some_differs (eqb r.left 0) (eqb r.right 0) (eqb r.first 0) (eqb r.second 0) (eqb r.current 0) (eqb r.giving 0) (eqb r.grip 0) (eqb r.ticket 0) (eqb r.place 0) (eqb r.notices 0) (eqb r.t1 0) (eqb r.t0 0) (eqb r.taken 0)
    ∙ (λ i. zero_test r.left i || zero_test r.right i || zero_test r.first i || zero_test r.second i || zero_test r.current i || zero_test r.giving i || zero_test r.grip i || zero_test r.ticket i || zero_test r.place i || zero_test r.notices i || zero_test r.t1 i || zero_test r.t0 i || zero_test r.taken i)
