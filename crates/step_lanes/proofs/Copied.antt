-- Lanes that are written as others are, and rows that may split among them.
use Rattle.std.proofs.Common.{◌≡◌, ◌≢◌, ◌∙◌, ◌<◌, ℕ, List, false, length, get_or, sym, subst, ⊎_elim}
use Rattle.std.specs.Prelude.{IsTrue}
use Rattle.std.proofs.lemmas.Bool.{cases_eq}
use Rattle.std.proofs.lemmas.List.{ext_get_or}
use Rattle.circ_model.specs.Meaning.{Pair}
use Rattle.circ_model.specs.Correspondence.{MaySplit}
use Rattle.sim_words.specs.Lanes.{lane, lane_bit}
use Rattle.sim_words.proofs.Lanes.{lane_at}
use Rattle.sim_words.proofs.Frames.{length_lane}
use Rattle.step_lanes.specs.Rows.{AreLaneRows, MaskedRows}

-- two lanes with the same bits
pub same_lane : (b c : ℕ) (xs ys : List ℕ) → length xs ≡ length ys → ((i : ℕ) → i < length xs → lane_bit b (get_or xs i 0) ≡ lane_bit c (get_or ys i 0)) → lane b xs ≡ lane c ys
same_lane b c xs ys e h =
    ext_get_or false (lane b xs) (lane c ys) (length_lane b xs ∙ e ∙ sym (length_lane c ys))
    (λ i lt. lane_at b xs i ∙ h i (subst (λ (n : ℕ). i < n) (length_lane b xs) lt) ∙ sym (lane_at c ys i))

-- the rows of a mask, one of which is a row of other rows of the same pair and k
pub rows_with_one : (r s : MaskedRows) (to from mask : ℕ) (words : List ℕ) → AreLaneRows r → AreLaneRows s → s.pair ≡ r.pair → s.k ≡ r.k → from < 64 → IsTrue (lane_bit from s.mask)
    → length words ≡ length r.words → lane to words ≡ lane from s.words → ((b : ℕ) → b < 64 → b ≢ to → lane b words ≡ lane b r.words)
    → ((b : ℕ) → b < 64 → b ≢ to → lane_bit b mask ≡ lane_bit b r.mask) → AreLaneRows (record { pair = r.pair; k = r.k; mask = mask; words = words })
rows_with_one r s to from mask words is other ep ek lt on size row rest masks =
    record {
      places = size ∙ is.places;
      may = λ b less here. ⊎_elim
          (λ (e : b ≡ to). subst (λ (n : ℕ). MaySplit r.pair r.k (lane n words)) (sym e)
          (subst (MaySplit r.pair r.k) (sym row)
          (subst (λ (p : Pair). MaySplit p r.k (lane from s.words)) ep (subst (λ (n : ℕ). MaySplit s.pair n (lane from s.words)) ek (other.may from lt on)))))
          (λ (ne : b ≢ to). subst (MaySplit r.pair r.k) (sym (rest b less ne)) (is.may b less (sym (masks b less ne) ∙ here)))
          (cases_eq b to);
    }
