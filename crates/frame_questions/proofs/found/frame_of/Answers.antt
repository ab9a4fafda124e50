use Rattle.std.proofs.Common.{◌≡◌, ◌<◌, ◌≤◌, ◌+◌, ◌*◌, ℕ, length, refl, arith, subst, rules, ⊎_elim}
use Rattle.std.proofs.lemmas.Bool.{cases_lt}
use Rattle.frame_unroll.proofs.Standing.{frame_fits}
use Rattle.frame_questions.specs.Found.{EqualIn}
use Rattle.frame_questions.proofs.found.frame_of.Goals as goal

pub loop-i-preserved : goal.loop-i-preserved
loop-i-preserved c t from lt =
    ⊎_elim
    (λ (early : t < c.args.first + c.loop-i.i). c.loop-i.invariant t from early)
    (λ (late : c.args.first + c.loop-i.i ≤ t).
    let e : c.args.first + c.loop-i.i ≡ t = omega arith in
    subst (λ (m : ℕ). EqualIn c.args.n c.args.row.now m c.args.a c.args.b) e (search rules))
    (cases_lt t (c.args.first + c.loop-i.i))

pub value_at-requires-clause-within : goal.value_at-requires-clause-within
value_at-requires-clause-within c =
    let n = c.args.n in
    let fits : (c.args.first + c.loop-i.i) * n + n ≤ length c.args.row.now = frame_fits (c.args.first + c.loop-i.i) (c.args.first + c.args.count) n n (length c.args.row.now) refl (omega arith) c.requires.within in
    omega arith

pub value_at-requires-clause-room : goal.value_at-requires-clause-room
value_at-requires-clause-room c =
    let n = c.args.n in
    let all : ℕ = (c.args.first + c.args.count) * n in
    let fits : (c.args.first + c.loop-i.i) * n + n ≤ all = frame_fits (c.args.first + c.loop-i.i) (c.args.first + c.args.count) n n all refl (omega arith) (omega arith) in
    omega arith

pub value_at-requires-in-loop-i-clause-within : goal.value_at-requires-in-loop-i-clause-within
value_at-requires-in-loop-i-clause-within c =
    let n = c.args.n in
    let fits : (c.args.first + c.loop-i.i) * n + n ≤ length c.args.row.now = frame_fits (c.args.first + c.loop-i.i) (c.args.first + c.args.count) n n (length c.args.row.now) refl (omega arith) c.requires.within in
    omega arith

pub value_at-requires-in-loop-i-clause-room : goal.value_at-requires-in-loop-i-clause-room
value_at-requires-in-loop-i-clause-room c =
    let n = c.args.n in
    let all : ℕ = (c.args.first + c.args.count) * n in
    let fits : (c.args.first + c.loop-i.i) * n + n ≤ all = frame_fits (c.args.first + c.loop-i.i) (c.args.first + c.args.count) n n all refl (omega arith) (omega arith) in
    omega arith
