-- Bounds for callers that keep the rules.
use Rattle.std.proofs.Common.{◌≡◌, ◌==◌, ◌∙◌, ◌<◌, ◌≤◌, ℕ, zero, suc, ◌+◌, ◌-◌, ◌*◌, ◌/◌, Bool, true, false, List, [], ◌∷◌, length, set, replicate, cond, if◌then◌else◌, refl, ap, sym, arith, true≢false, slice_index_or, Option, Some, None, length-set, le-ltb, mul-le-mul_left}
use Rattle.std.proofs.lemmas.List.{length-replicate}
use Rattle.std.proofs.lemmas.List.Sums.{sum_by-cons}
use Rattle.circ_model.specs.Meaning.{Pair, places_of}
use Rattle.class_partition.specs.Classes.{Classes, ArePartition}
use Rattle.refine_board.specs.declared.marks.Mark.TheVariants.{Open, Proved}
use Rattle.refine_board.specs.declared.marks.LastOffer.{LastOffer}
use Rattle.refine_board.specs.declared.journal.Step.{Step}
use Rattle.refine_board.specs.declared.journal.Step.TheVariants.{Offered, Idle, Done, Counted, Stale, Back, Foreign, Already, Split}
use Rattle.refine_board.specs.declared.journal.Entry.{Entry}
use Rattle.refine_board.specs.States.{State, offer_of, called, offered, cleared, marked, reopened, released, divided}
use Rattle.refine_board.specs.Schedules.{Does, opened, IsSupported, IsOrderly, LeadsInOrder}
use Rattle.refine_board.specs.Tallies.{is_split, split_entries, is_offered, offered_entries, is_back, back_entries, is_late, late_entries}
use Rattle.class_partition.proofs.Counting.{counted, counted_le, counted_false}
use Rattle.refine_board.proofs.Supported.{after_event}
use Rattle.refine_board.proofs.Splits.{splits_below}
use Rattle.refine_board.proofs.Offers.{ahead, spends, total_ahead}
use Rattle.refine_board.proofs.Timely.{leads_from_order, IsTimely, same_offers, timely_after}
use Rattle.refine_board.proofs.Outdated.{is_outdated, outdated_at, outdated, outdated_write, outdated_clear, outdated_split, stale_is_outdated, already_is_outdated, not_reopened}

abbrev one : Bool → ℕ
one b = cond b 1 0

abbrev number_of : State → ℕ
number_of b = b.number

abbrev offers_of : State → List (Option LastOffer)
offers_of b = b.offers

released_number : (party : ℕ) (before after : State) → after ≡ called party (released party before) → after.number ≡ before.number
released_number party before after e = ap number_of e ∙ (same_offers (offer_of before party) before).1

released_offers : (party : ℕ) (before after : State) → after ≡ called party (released party before) → after.offers ≡ set before.offers party None
released_offers party before after e = ap offers_of e ∙ ap (λ (l : List (Option LastOffer)). set l party None) (same_offers (offer_of before party) before).0

late_step : (places workers party : ℕ) (event : Step) (before after : State) → party < workers + 1 → IsTimely places (workers + 1) before → IsOrderly before party event → Does places party event before after
    → one (is_late event) + outdated (workers + 1) after ≤ outdated (workers + 1) before + workers * one (is_split event)
late_step places workers party (Offered p) before after inside is order does =
    let h = outdated_write (workers + 1) party (Some (record { pair = p; number = before.number })) before after (le-ltb before.number before.number (omega arith)) (ap number_of does.1) (ap offers_of does.1) in
    omega arith
late_step places workers party Idle before after inside is order does = let e = ap (outdated (workers + 1)) does.2 in omega arith
late_step places workers party Done before after inside is order does = let e = ap (outdated (workers + 1)) does.1 in omega arith
late_step places workers party (Counted p w) before after inside is order does = let h = outdated_write (workers + 1) party None before after refl (ap number_of does.1) (ap offers_of does.1) in omega arith
late_step places workers party (Stale p) before after inside is (o, at, named) does =
    let h = outdated_clear (workers + 1) party before after is.offers (stale_is_outdated before party o at named.1) (released_number party before after does) (released_offers party before after does) in
    omega arith
late_step places workers party (Back p) before after inside is order does = let h = outdated_write (workers + 1) party None before after refl (released_number party before after does) (released_offers party before after does) in omega arith
late_step places workers party Foreign before after inside is order does = absurd order
late_step places workers party (Already bits) before after inside is (o, at, separates) does =
    let lt = already_is_outdated places (workers + 1) party bits before is does.0 o at separates in
    let h = outdated_clear (workers + 1) party before after is.offers (stale_is_outdated before party o at lt) (released_number party before after does.1) (released_offers party before after does.1) in
    omega arith
late_step places workers party (Split bits n) before after inside is order (classes, split, some, count, e) =
    let h = outdated_split (workers + 1) party before after inside is.offers (ap offers_of e) in
    omega arith

-- an answer that finds its offer outdated opens nothing
kept_ahead : (places party : ℕ) (o : LastOffer) (before after : State) → offer_of before party ≡ Some o → o.number < before.number → after ≡ called party (released party before) → ahead places after ≡ ahead places before
kept_ahead places party o before after at lt e = ap (ahead places) e ∙ ap (ahead places) (not_reopened o (offer_of before party) before at lt)

spends_in_order : (pair : Pair) (k parties party : ℕ) (event : Step) (before after : State) → IsSupported pair k before → IsTimely (places_of pair) parties before → IsOrderly before party event → Does (places_of pair) party event before after
    → one (is_offered event) + ahead (places_of pair) after ≤ one (is_back event) + ahead (places_of pair) before
spends_in_order pair k parties party (Offered p) before after is timely order does = spends pair k party (Offered p) before after is does
spends_in_order pair k parties party Idle before after is timely order does = spends pair k party Idle before after is does
spends_in_order pair k parties party Done before after is timely order does = spends pair k party Done before after is does
spends_in_order pair k parties party (Counted p w) before after is timely order does = spends pair k party (Counted p w) before after is does
spends_in_order pair k parties party (Stale p) before after is timely (o, at, named) does = let e = kept_ahead (places_of pair) party o before after at named.1 does in omega arith
spends_in_order pair k parties party (Back p) before after is timely order does = spends pair k party (Back p) before after is does
spends_in_order pair k parties party Foreign before after is timely order does = absurd order
spends_in_order pair k parties party (Already bits) before after is timely (o, at, separates) does =
    let e = kept_ahead (places_of pair) party o before after at (already_is_outdated (places_of pair) parties party bits before timely does.0 o at separates) does.1 in
    omega arith
spends_in_order pair k parties party (Split bits n) before after is timely order does = spends pair k party (Split bits n) before after is does

calls_of_reopened : (offer : Option LastOffer) (board : State) → (reopened offer board).calls ≡ board.calls
calls_of_reopened None board = refl
calls_of_reopened (Some offer) board = at (offer.number == board.number)
  where
    at : (b : Bool) → (if b then marked offer.pair.member Open board else board).calls ≡ board.calls
    at true = refl
    at false = refl

calls_stay : (places party : ℕ) (event : Step) (before after : State) → Does places party event before after → length after.calls ≡ length before.calls
calls_stay places party event before after does = at event does
  where
    called_length : (b : State) → b.calls ≡ before.calls → after ≡ called party b → length after.calls ≡ length before.calls
    called_length b same e = ap (λ (x : State). length x.calls) e ∙ length-set b.calls party _ ∙ ap length same

    at : (event : Step) → Does places party event before after → length after.calls ≡ length before.calls
    at (Offered p) does = called_length (offered party p before) refl does.1
    at Idle does = called_length before refl does.2
    at Done does = called_length before refl does.1
    at (Counted p w) does = called_length (cleared party (marked p.member (Proved p.rep w) before)) refl does.1
    at (Stale p) does = called_length (released party before) (calls_of_reopened (offer_of before party) before) does
    at (Back p) does = called_length (released party before) (calls_of_reopened (offer_of before party) before) does
    at Foreign does = called_length (released party before) (calls_of_reopened (offer_of before party) before) does
    at (Already bits) does = called_length (released party before) (calls_of_reopened (offer_of before party) before) does.1
    at (Split bits n) (classes, split, some, count, e) = called_length (cleared party (divided classes before)) refl e

no_offer : {P : Type 0} (n q : ℕ) (o : LastOffer) → slice_index_or (replicate n None) q None ≡ Some o → P
no_offer zero q o at = cc
no_offer (suc n) zero o at = cc
no_offer (suc n) (suc q) o at = no_offer n q o at

late_so_far : (pair : Pair) (k workers : ℕ) (entries : List Entry) (before after : State) → IsTimely (places_of pair) (workers + 1) before → length before.calls ≡ workers + 1 → LeadsInOrder pair k before entries after
    → late_entries entries + outdated (workers + 1) after ≤ outdated (workers + 1) before + workers * split_entries entries
late_so_far pair k workers [] before after is calls e = let h = ap (outdated (workers + 1)) e in omega arith
late_so_far pair k workers (entry ∷ rest) before after is calls (middle, step, ok, order, further) =
    let here = late_step (places_of pair) workers entry.worker entry.step before middle (let h = step.0 in omega arith) is order step.2 in
    let later = late_so_far pair k workers rest middle after (timely_after (places_of pair) (workers + 1) entry.worker entry.step before middle step.2 is) (calls_stay (places_of pair) entry.worker entry.step before middle step.2 ∙ calls) further in
    rw (sum_by-cons (λ (e : Entry). one (is_late e.step)) entry rest, sum_by-cons (λ (e : Entry). one (is_split e.step)) entry rest) (omega arith)

none_outdated : (number n q : ℕ) → is_outdated number (slice_index_or (replicate n None) q None) ≡ false
none_outdated number zero q = refl
none_outdated number (suc n) zero = refl
none_outdated number (suc n) (suc q) = none_outdated number n q

count_none : (f : ℕ → Bool) (a n : ℕ) → ((q : ℕ) → f q ≡ false) → counted f a n ≡ 0
count_none f a n none =
    let h = counted_le f (λ _. false) a n (λ q low high on. absurd (true≢false (sym on ∙ none q))) in
    let z = counted_false a n in
    omega arith

pub opening_timely : (pair : Pair) (workers number : ℕ) (classes : Classes) → IsTimely (places_of pair) (workers + 1) (opened pair workers classes number)
opening_timely pair workers number classes = record { offers = length-replicate (workers + 1) None; past = λ q o at. no_offer (workers + 1) q o at; now = λ q o at. no_offer (workers + 1) q o at }

-- Stale and Already entries are together at most the workers times the splits
pub late_below : (pair : Pair) (k workers number : ℕ) (classes : Classes) (entries : List Entry) (after : State) → ArePartition (places_of pair) classes → LeadsInOrder pair k (opened pair workers classes number) entries after
    → late_entries entries ≤ workers * (places_of pair - 1)
late_below pair k workers number classes entries after is leads =
    let before : State = opened pair workers classes number in
    let timely = opening_timely pair workers number classes in
    let h = late_so_far pair k workers entries before after timely (length-replicate (workers + 1) 0) leads in
    let z = count_none (outdated_at before) 0 (workers + 1) (none_outdated number (workers + 1)) in
    let few = splits_below pair k entries before after is (leads_from_order pair k entries before after leads) in
    let most : workers * split_entries entries ≤ workers * (places_of pair - 1) = mul-le-mul_left workers (omega arith) in
    omega arith

offers_in_order : (pair : Pair) (k parties : ℕ) (entries : List Entry) (before after : State) → IsSupported pair k before → IsTimely (places_of pair) parties before → LeadsInOrder pair k before entries after
    → offered_entries entries + ahead (places_of pair) after ≤ back_entries entries + ahead (places_of pair) before
offers_in_order pair k parties [] before after is timely e = let h = ap (ahead (places_of pair)) e in omega arith
offers_in_order pair k parties (entry ∷ rest) before after is timely (middle, step, ok, order, further) =
    let here = spends_in_order pair k parties entry.worker entry.step before middle is timely order step.2 in
    let later = offers_in_order pair k parties rest middle after (after_event pair k entry.worker entry.step before middle step.2 ok is) (timely_after (places_of pair) parties entry.worker entry.step before middle step.2 timely) further in
    rw (sum_by-cons (λ (e : Entry). one (is_offered e.step)) entry rest, sum_by-cons (λ (e : Entry). one (is_back e.step)) entry rest) (omega arith)

pub offers_in_order_below : (pair : Pair) (k parties : ℕ) (entries : List Entry) (before after : State) → IsSupported pair k before → IsTimely (places_of pair) parties before → LeadsInOrder pair k before entries after
    → offered_entries entries ≤ places_of pair * (places_of pair - 1) / 2 + back_entries entries
offers_in_order_below pair k parties entries before after is timely leads = let h = offers_in_order pair k parties entries before after is timely leads in let most = total_ahead pair k before is in omega arith
