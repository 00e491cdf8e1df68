-- The chunks behind the offset, the first `count` of them.
use Rattle.std.proofs.Common.{◌≡◌, ◌≤◌, ◌-◌, ◌/◌, length, take, drop, take_all, length-drop, ap, ap₂, ◌∙◌, arith, Option, None, Some, List, ℕ, inl, inr}
use Rattle.std.specs.Option.{MatchOption}
use Rattle.std.specs.Simd.{first_chunks}
use Rattle.schedule.specs.laws.FormatLaws.{take_chunks}
use Rattle.schedule.proofs.format.Header.calls.Goals as goal

chunks_behind : (bytes rest : List ℕ) (chunks calls : List (List ℕ)) (offset count : ℕ) → rest ≡ take (length bytes - offset) (drop offset bytes) → chunks ≡ first_chunks 24 (length rest / 24) rest
    → count ≤ length chunks → length chunks ≡ length rest / 24 → calls ≡ take (count - 0) chunks → calls ≡ first_chunks 24 count (drop offset bytes)
chunks_behind bytes rest chunks calls offset count e f b l g =
    let all : count - 0 ≡ count = omega arith in
    g ∙ ap₂ (λ (n : ℕ) (x : List (List ℕ)). take n x) all f ∙ take_chunks 24 count (length rest / 24) rest (omega arith)
    ∙ ap (first_chunks 24 count) (e ∙ take_all (length bytes - offset) (drop offset bytes) (omega (arith, length-drop offset bytes)))

-- the cases of what `get` found, said in another way
cases : {X : Type 0} (r : Option X) (P P' : Type 0) (Q : X → Type 0) {Q' : X → Type 0} → MatchOption r P Q → (P → P') → ((x : X) → Q x → Q' x) → MatchOption r P' Q'
cases None P P' Q m f g = f m
cases (Some x) P P' Q m f g = g x m

pub returns : goal.returns
returns c =
    let rest = c.in_ok-get.ensures.lookup.0 in
    let front = c.as_chunks.ensures in
    cases c.get-2.result _ _ _ c.get-2.ensures.lookup.0
    (elim [ inl h ↦ absurd (omega (arith, h)) | inr h ↦ omega (arith, h, front.front_len, rest) ])
    (λ x m. (omega (arith, m, front.front_len, rest), chunks_behind c.args.bytes.now c.in_ok-get.field-0.now c.as_chunks.result.0.now x.now c.args.self.offset c.args.self.count rest.2 front.front m.1 front.front_len m.2))
