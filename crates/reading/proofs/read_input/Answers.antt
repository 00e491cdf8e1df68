-- What a read gave stands behind what the earlier reads gave, so the reader lost both, one behind the other.
use Rattle.std.proofs.Common.{rules, ◌≡◌, ℕ, ◌+◌, ◌≤◌, List, ◌++◌, length, take, drop, sym, ap, ◌∙◌, subst, refl, le_refl, drop_at, length-take-le}
use Rattle.std.proofs.lemmas.Slice.{take-put_mid_below}
use Rattle.std.specs.Io.KnownBytes.{Consumes}
use Rattle.std.proofs.KnownBytes.{Consumes-trans}
use Rattle.std.specs.declared.option.Option.{Option}
use borrow.Rule.Slice.PartMut.{put_mid, post_of}
use lib.Seq.{take-add, take-append-le}
use Rattle.reading.proofs.read_input.Goals as goal

-- xs with ys put in from a on: its first a + n are the first a of xs and the first n of ys
take_joined : (a k n : ℕ) (xs ys : List ℕ) → a ≤ length xs → n ≤ length ys → take a xs ++ take n ys ≡ take (a + n) (put_mid a k xs ys)
take_joined a k n xs ys within fits =
    let after = post_of a k xs in
    let front : take a (put_mid a k xs ys) ≡ take a xs = take-put_mid_below _ _ _ _ _ (le_refl a) within in
    let part : take n (drop a (put_mid a k xs ys)) ≡ take n ys =
    ap (take n) (drop_at (take a xs) (ys ++ after) a (length-take-le a xs within)) ∙ take-append-le n ys after fits in
    ap (λ l. l ++ take n ys) (sym front) ∙ ap (λ l. take a (put_mid a k xs ys) ++ l) (sym part) ∙ sym (take-add a n (put_mid a k xs ys))

read_on : (before between after : Option (List ℕ)) (a k n m : ℕ) (xs ys : List ℕ) → a ≤ length xs → n ≤ length ys → m ≡ a + n
    → Consumes before between (take a xs) → Consumes between after (take n ys) → Consumes before after (take m (put_mid a k xs ys))
read_on before between after a k n m xs ys within fits at first second =
    subst (Consumes before after) (take_joined a k n xs ys within fits ∙ ap (λ j. take j (put_mid a k xs ys)) (sym at)) (Consumes-trans before between after _ _ first second)

pub loop-count-preserved : goal.loop-count-preserved
loop-count-preserved g c =
    let more = c.in-Ok.ensures in
    record {
      in_range = search rules;
      bytes = read_on _ _ _ c.loop-count.count _ c.in-Ok.more (c.loop-count.count + c.in-Ok.more) _ c.read.new.buf c.loop-count.invariant.in_range more.bound.0 refl c.loop-count.invariant.bytes more.bytes.0;
    }
