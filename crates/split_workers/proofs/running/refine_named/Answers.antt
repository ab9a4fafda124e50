use Rattle.std.proofs.Common.{rules, ◌≡◌, ◌∙◌, ◌<◌, sym, ap, subst, arith, None, IfSome, get_or}
use denote.Exit.{no}
use denote.Param.Send.{arg_send, arg_sync, param_send, param_sync}
use Rattle.work_desk.specs.Seats.{Seated, HasEnded}
use Rattle.split_workers.proofs.running.refine_named.Goals as goal

pub map_vec-requires-after_bounds : goal.map_vec-requires-after_bounds
map_vec-requires-after_bounds g c βs within = λ i x lt at.
    let b = c.type_bounds in
    let few = c.in_ok-ledgers.ensures.seats in
    let below : i < c.args.beginning.workers = omega (arith, lt, few.0) in
    let is : x ≡ record { party = i; ended = 0; answered = 0 } = at ∙ few.1 i x below in (
      subst (λ n. n < g.L.Run.workers) (sym (ap (λ (s : Seated). s.party) is)) (omega (arith, below, c.requires.workers)),
      (
        ap (λ (s : Seated). s.ended) is,
        (param_send 0 _ (arg_send _ no _ b.send-L), param_send 1 _ (arg_send _ no _ b.send-E), param_send 2 _ (arg_send _ no _ b.send-O), param_sync 0 _ (arg_sync _ no _ b.sync-L), param_sync 1 _ (arg_sync _ no _ b.sync-E), param_sync 2 _ (arg_sync _ no _ b.sync-O), param_sync 3 _ (arg_sync _ no _ b.sync-R), param_sync 4 _ (arg_sync _ no _ b.sync-G)),
      ),
    )

show : {A B : Type 0} → A → (A → B) → B
show a f = f a

pub close-requires-clause-ended : goal.close-requires-clause-ended
close-requires-clause-ended g c = λ i lt.
    let few = c.in_ok-ledgers.ensures.seats in
    let below : i < c.args.beginning.workers = omega (arith, lt, c.in_ok-told.ensures.len, few.0) in
    let got = c.in_ok-told.ensures.each i None (omega (arith, below, few.0)) in
    let e = few.1 i got.1.job below in
    let party : got.1.job.party ≡ i = ap (λ (s : Seated). s.party) (sym (got.1.job_is got.1.job) ∙ e) in
    let met = got.1.call.met in
    subst (λ p. IfSome (get_or c.in_ok-told.told.items i None) (HasEnded p)) party (show met (λ m. search rules))
