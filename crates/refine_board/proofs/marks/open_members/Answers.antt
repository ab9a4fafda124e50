use Rattle.std.proofs.Common.{◌≡◌, ◌∙◌, ◌⊎◌, ◌<◌, ◌≤◌, ◌+◌, ◌++◌, ◌∷◌, [], ℕ, List, Bool, true, false, length, take, refl, sym, arith, inl, inr, length-append}
use Rattle.std.specs.Prelude.{filter}
use Rattle.std.specs.List.{All, range_with_len}
use Rattle.std.proofs.lemmas.List.Elements.{All-push}
use Rattle.class_partition.specs.Classes.{Classes, IsNeeded}
use Rattle.refine_board.specs.States.{is_open_at, most_open}
use Rattle.refine_board.proofs.Pending.{none_more, one_more, open_needed}
use Rattle.refine_board.proofs.marks.open_members.Goals as goal
use Rattle.refine_board.proofs.marks.open_members.Goals.{then-is_open_at+then-len-lt-MOST_OPEN+in_ok-push, else-is_open_at, else-is_open_at-via-then-is_open_at+else-len-lt-MOST_OPEN, else-is_open_at-via-else-is_open_at}

pub loop-p-preserved : goal.loop-p-preserved
loop-p-preserved c =
    let classes : Classes = c.args.classes.now in
    let f : ℕ → Bool = is_open_at classes c.args.marks.now in
    let p : ℕ = c.loop-p.p in
    let xs : List ℕ = c.loop-p.members.items in
    let was : xs ≡ take most_open (filter f (range_with_len 0 p)) = c.loop-p.invariant.0 in
    let Kept : List ℕ → Type 0 = λ (l : List ℕ). (l ≡ take most_open (filter f (range_with_len 0 (p + 1)))) × (length l ≤ most_open) × All (IsNeeded (length classes.least) classes) l in
    elim c.if-is_open_at.branch [
      | then-is_open_at+then-len-lt-MOST_OPEN+in_ok-push w ↦
          let on : f p ≡ true = sym c.is_open_at.ensures ∙ w.if-is_open_at.true in
          let room : length xs < most_open = omega (arith, w.if-len-lt-MOST_OPEN.true, w.len.ensures) in
          let now : List ℕ = xs ++ p ∷ [] in
          let kept : Kept now = (one_more f most_open p xs now was on room refl, omega (arith, room, length-append xs (p ∷ [])), All-push (IsNeeded (length classes.least) classes) xs p c.loop-p.invariant.2 (open_needed classes c.args.marks.now p (omega (arith, c.loop-p-test.true, c.len-p-end.ensures.places)) on)) in
          rw (w.members-is, w.in_ok-push.ensures.items) kept
      | else-is_open_at w ↦
          let why : (f p ≡ false) ⊎ (most_open ≤ length xs) = elim w.else-is_open_at.branch [
            | else-is_open_at-via-then-is_open_at+else-len-lt-MOST_OPEN w' ↦ inr (omega (arith, w'.if-len-lt-MOST_OPEN.false, w'.len.ensures))
            | else-is_open_at-via-else-is_open_at w' ↦ inl (sym c.is_open_at.ensures ∙ w'.if-is_open_at.false)
          ] in
          let kept : Kept xs = (none_more f most_open p xs was why, c.loop-p.invariant.1, c.loop-p.invariant.2) in
          rw w.members-is kept
    ]
