-- Laws of an inner word: it is its six fields, and what returning Occ does to each of them. Assumes nothing.
use Rattle.std.specs.Prelude.{◌≡◌, [], ◌∷◌, ◌⊎◌, ℕ, ◌+◌, ◌/◌, ◌%◌, ◌^◌, ◌≤◌}
use Rattle.std.proofs.Common.{sym, ap, ◌∙◌, inl, inr, div-one, add-zero, mod-eq_of_lt, lit≤}
use Rattle.word.specs.rules.Word.{field, exp, occ, tcnt, tmax, dcnt, dmax, add_occ, add_tcnt, add_tmax, add_dcnt, add_dmax, layout, add_fields, deltas, return_occ}
use Rattle.word.proofs.laws.Fields.{field_add, field_add_other, add_above, field_lt, same_from}
use Rattle.word.proofs.laws.AddFields.{field_add_fields, add_fields_above, add_in_field}

-- an inner word is its six fields, and what stands above them
pub inner_ext : (w v : ℕ) → w / 2 ^ 64 ≡ v / 2 ^ 64
    → exp w ≡ exp v → occ w ≡ occ v → tcnt w ≡ tcnt v → tmax w ≡ tmax v → dcnt w ≡ dcnt v → dmax w ≡ dmax v → w ≡ v
inner_ext w v h e o t m d x =
    let occ_up = same_from 62 1 w v o (same_from 63 1 w v e h) in
    sym (div-one w) ∙ same_from 0 16 w v x (same_from 16 16 w v d (same_from 32 15 w v m (same_from 47 15 w v t occ_up))) ∙ div-one v

-- ---- returning Occ

-- what it does to each field of w, where r is the word that it leaves
pub record OccReturned (w r : ℕ) : Type 0 where
  pub exp_kept : exp r ≡ exp w
  pub occ_less : occ r ≡ (occ w + 1) % 2 ^ 1
  pub tcnt_more : tcnt r ≡ (tcnt w + 1) % 2 ^ 15
  pub tmax_kept : tmax r ≡ tmax w
  pub dcnt_kept : dcnt r ≡ dcnt w
  pub dmax_kept : dmax r ≡ dmax w

kept : (t j w : ℕ) → (62 + 1 ≤ t) ⊎ (t + j ≤ 62) → (47 + 15 ≤ t) ⊎ (t + j ≤ 47) → field t j (return_occ w) ≡ field t j w
unfolding return_occ
kept t j w a b = field_add_other 62 1 1 (add_tcnt 1 w) t j a ∙ field_add_other 47 15 1 w t j b

pub occ_returned : (w : ℕ) → OccReturned w (return_occ w)
unfolding return_occ
occ_returned w =
    record {
      exp_kept = kept 63 1 w (inl (lit≤ tt)) (inl (lit≤ tt));
      occ_less = field_add 62 1 1 (add_tcnt 1 w) ∙ ap (λ (n : ℕ). (n + 1) % 2 ^ 1) (field_add_other 47 15 1 w 62 1 (inl (lit≤ tt)));
      tcnt_more = field_add_other 62 1 1 (add_tcnt 1 w) 47 15 (inr (lit≤ tt)) ∙ field_add 47 15 1 w;
      tmax_kept = kept 32 15 w (inr (lit≤ tt)) (inr (lit≤ tt));
      dcnt_kept = kept 16 16 w (inr (lit≤ tt)) (inr (lit≤ tt));
      dmax_kept = kept 0 16 w (inr (lit≤ tt)) (inr (lit≤ tt));
    }

return_occ_above : (w : ℕ) → return_occ w / 2 ^ 64 ≡ w / 2 ^ 64
unfolding return_occ
return_occ_above w = add_above 62 1 1 (add_tcnt 1 w) 64 (lit≤ tt) ∙ add_above 47 15 1 w 64 (lit≤ tt)

-- "TCnt 32,767 with Occ 1, returned: both 0, TMax untouched"
pub largest_tcnt_returned : (w : ℕ) → occ w ≡ 1 → tcnt w ≡ 32767
    → (occ (return_occ w) ≡ 0) × (tcnt (return_occ w) ≡ 0) × (tmax (return_occ w) ≡ tmax w)
largest_tcnt_returned w o t =
    let r = occ_returned w in
    (r.occ_less ∙ ap (λ (n : ℕ). (n + 1) % 2 ^ 1) o, r.tcnt_more ∙ ap (λ (n : ℕ). (n + 1) % 2 ^ 15) t, r.tmax_kept)

-- "in one add": of a word with a 1 in Occ and a 1 in TCnt
pub return_occ_one_add : (w : ℕ) → add_fields layout (deltas 0 1 1 0 0 0) w ≡ return_occ w
unfolding field
return_occ_one_add w =
    let d : ℕ = deltas 0 1 1 0 0 0 in
    let r = occ_returned w in
    inner_ext _ _ (add_fields_above layout d w ∙ sym (return_occ_above w))
    (field_add_fields (16 ∷ 16 ∷ 15 ∷ 15 ∷ 1 ∷ []) 1 [] d w ∙ stays 63 1 ∙ sym r.exp_kept)
    (field_add_fields (16 ∷ 16 ∷ 15 ∷ 15 ∷ []) 1 (1 ∷ []) d w ∙ sym r.occ_less)
    (field_add_fields (16 ∷ 16 ∷ 15 ∷ []) 15 (1 ∷ 1 ∷ []) d w ∙ sym r.tcnt_more)
    (field_add_fields (16 ∷ 16 ∷ []) 15 (15 ∷ 1 ∷ 1 ∷ []) d w ∙ stays 32 15 ∙ sym r.tmax_kept)
    (field_add_fields (16 ∷ []) 16 (15 ∷ 15 ∷ 1 ∷ 1 ∷ []) d w ∙ stays 16 16 ∙ sym r.dcnt_kept)
    (field_add_fields [] 16 (16 ∷ 15 ∷ 15 ∷ 1 ∷ 1 ∷ []) d w ∙ stays 0 16 ∙ sym r.dmax_kept)
  where
    stays : (s k : ℕ) → (field s k w + 0) % 2 ^ k ≡ field s k w
    stays s k = ap (λ (n : ℕ). n % 2 ^ k) (add-zero (field s k w)) ∙ mod-eq_of_lt (field_lt s k w)

-- ---- a 1 in one field alone

module _ (w : ℕ) where
  pub one_in_occ : add_fields layout (deltas 0 1 0 0 0 0) w ≡ add_occ 1 w
  one_in_occ = add_in_field (16 ∷ 16 ∷ 15 ∷ 15 ∷ []) 1 (1 ∷ []) 1 w (lit≤ tt)

  pub one_in_tcnt : add_fields layout (deltas 0 0 1 0 0 0) w ≡ add_tcnt 1 w
  one_in_tcnt = add_in_field (16 ∷ 16 ∷ 15 ∷ []) 15 (1 ∷ 1 ∷ []) 1 w (lit≤ tt)

  pub one_in_tmax : add_fields layout (deltas 0 0 0 1 0 0) w ≡ add_tmax 1 w
  one_in_tmax = add_in_field (16 ∷ 16 ∷ []) 15 (15 ∷ 1 ∷ 1 ∷ []) 1 w (lit≤ tt)

  pub one_in_dcnt : add_fields layout (deltas 0 0 0 0 1 0) w ≡ add_dcnt 1 w
  one_in_dcnt = add_in_field (16 ∷ []) 16 (15 ∷ 15 ∷ 1 ∷ 1 ∷ []) 1 w (lit≤ tt)

  pub one_in_dmax : add_fields layout (deltas 0 0 0 0 0 1) w ≡ add_dmax 1 w
  one_in_dmax = add_in_field [] 16 (16 ∷ 15 ∷ 15 ∷ 1 ∷ 1 ∷ []) 1 w (lit≤ tt)
