use Rattle.std.proofs.Common.{◌≡◌, ◌∙◌, ◌<◌, ◌+◌, ◌-◌, ℕ, List, Bool, length, arith, refl, sym, subst, ap}
use Rattle.circ_model.specs.Meaning.{Pair, IsSoundPair, places_of}
use Rattle.circ_model.specs.Correspondence.{MaySplit}
use Rattle.class_partition.specs.Classes.{AreOfGreatest, HoldIn}
use Rattle.verdict_stamp.specs.Versions.{Standing}
use Rattle.verdict_stamp.specs.Versions as vector
use Rattle.refine_board.specs.declared.journal.Step.TheVariants.{Already, Split}
use Rattle.refine_board.specs.States.{State, called, cleared, lasting_marks, released, divided}
use Rattle.refine_board.specs.Running.{Running, IsRunning, IsOfRun, state_of}
use Rattle.refine_board.proofs.Runs.{running_after, held_after, released_is}
use Rattle.refine_board.proofs.Splits.{unsplit}
use Rattle.refine_board.proofs.Dividing.{Divided, divided_is, may_of_run, row_of_run}
use Rattle.refine_board.proofs.board.Board.cut.Goals as goal

pub invariant_of-self : goal.invariant_of-self
invariant_of-self g c =
    let i = c.self.inside in
    let before : State = state_of i.version i.marks i.calls.items i.offers.items in
    let was : IsRunning g.L.Run.pair g.L.Run.k g.L.Run.workers g.L.Run.opening before i.journal.entries = c.self.invariant.0 in
    let of = c.self.invariant.1 in
    let held = c.self.invariant.2 in
    let room : i.journal.room - i.owed.total ≡ c.args.self.now.room = ap (λ (r : Running). r.room) c.self.view_is in
    let q : ℕ = c.args.party in
    let inside : q < length before.calls = omega (arith, c.requires.party, was.calls) in
    let places : ℕ = places_of g.L.Run.pair in
    let x : vector.Split = c.args.vector in
    let v : Standing = c.split_by-added.new.self in
    let added : ℕ = c.split_by-added.result in
    let bits : List Bool = c.into_bits-bits.result in
    let bits_is : bits ≡ x.bits = c.into_bits-bits.ensures.bits in
    let may : MaySplit g.L.Run.pair g.L.Run.k bits = may_of_run g.L.Run.pair g.L.Run.k x bits bits_is c.requires.own c.into_bits-bits.ensures.may in
    let none = c.split_by-added.ensures.none (omega arith) in
    let same : v ≡ i.version = none.0 in
    let holds : HoldIn places before.classes bits = subst (HoldIn places before.classes) (sym bits_is) (subst (λ (p : Pair). HoldIn (places_of p) i.version.classes x.bits) of.pair_is none.1) in
    let number_is : c.number.result ≡ before.number = c.number.ensures ∙ ap (λ (s : Standing). s.number) same in
    let after : State = called q (record before { marks = c.release.new.marks; offers = c.release.new.offers.items }) in
    let is_after : after ≡ called q (released q before) = rw (c.release.ensures.marks, c.release.ensures.offers, number_is) (ap (called q) (sym (released_is q before))) in
    let is = running_after g.L.Run.pair g.L.Run.k g.L.Run.workers g.L.Run.opening before after i.journal.entries q (Already bits) (inside, refl, (holds, is_after)) may was in (
      rw (c.note_already.ensures.calls, c.note_already.ensures.entries, same) is,
      subst (λ (s : Standing). IsOfRun g.L.Run.pair g.L.Run.k g.L.Run.workers g.L.Run.opening s i.first g.L.Run.list i.versions.now i.current g.L.Run.word i.word.now i.seat i.turn) (sym same) of,
      rw (c.note_already.ensures.calls, same) (held_after places i.cursor c.release.result i.waiting i.owed.total i.journal.room c.note_already.new.journal.room g.L.Ledger.parts i.rest.parts before after held c.note_already.ensures.room (omega (arith, room, c.requires.room))
          (λ m lt open_now. held.passed m (omega (arith, lt, c.release.ensures.cursor)) (open_now.0, c.release.ensures.passed m lt open_now.1)) (omega (arith, c.release.ensures.cursor, held.cursor_in))),
      c.note_already.ensures.cells ∙ c.self.invariant.3,
    )

pub invariant_of-self-2 : goal.invariant_of-self-2
invariant_of-self-2 g c =
    let i = c.self.inside in
    let before : State = state_of i.version i.marks i.calls.items i.offers.items in
    let was : IsRunning g.L.Run.pair g.L.Run.k g.L.Run.workers g.L.Run.opening before i.journal.entries = c.self.invariant.0 in
    let of = c.self.invariant.1 in
    let held = c.self.invariant.2 in
    let room : i.journal.room - i.owed.total ≡ c.args.self.now.room = ap (λ (r : Running). r.room) c.self.view_is in
    let q : ℕ = c.args.party in
    let inside : q < length before.calls = omega (arith, c.requires.party, was.calls) in
    let places : ℕ = places_of g.L.Run.pair in
    let x : vector.Split = c.args.vector in
    let v : Standing = c.split_by-added.new.self in
    let added : ℕ = c.split_by-added.result in
    let bits : List Bool = c.into_bits-bits.result in
    let bits_is : bits ≡ x.bits = c.into_bits-bits.ensures.bits in
    let may : MaySplit g.L.Run.pair g.L.Run.k bits = may_of_run g.L.Run.pair g.L.Run.k x bits bits_is c.requires.own c.into_bits-bits.ensures.may in
    let d : Divided places before.classes bits v.classes added = divided_is g.L.Run.pair v i.version x.bits bits added of.pair_is was.supported.partition bits_is c.split_by-added.ensures.split c.split_by-added.ensures.count (omega arith) in
    let number_is : v.number ≡ i.version.number + 1 = c.split_by-added.ensures.number (omega arith) in
    let marks_is : c.split.new.self ≡ lasting_marks v.classes i.marks = c.split.ensures in
    let after : State = called q (cleared q (divided v.classes before)) in
    let is = running_after g.L.Run.pair g.L.Run.k g.L.Run.workers g.L.Run.opening before after i.journal.entries q (Split bits added) (inside, refl, (v.classes, d.split, d.some, d.count, refl)) may was in
    (rw (c.note_split.ensures.calls, c.note_split.ensures.entries, marks_is, number_is) is, record { pair_is = c.split_by-added.ensures.product ∙ of.pair_is; k_is = c.split_by-added.ensures.k ∙ of.k_is; first_pair = of.first_pair; first_k = of.first_k; opening_is = of.opening_is; list_is = of.list_is; current_is = tt; word_is = of.word_is; seat_is = of.seat_is; board_is = of.board_is; turn_is = of.turn_is }, rw (c.note_split.ensures.calls, marks_is, number_is) (held_after places i.cursor 0 i.waiting i.owed.total i.journal.room c.note_split.new.journal.room g.L.Ledger.parts i.rest.parts before after held c.note_split.ensures.room (omega (arith, room, c.requires.room)) (λ m lt open_now. absurd (omega arith)) (omega arith)), c.note_split.ensures.cells ∙ c.self.invariant.3)

pub returns-clause-step : goal.returns-clause-step
returns-clause-step g c =
    let i = c.self.inside in
    let before : State = state_of i.version i.marks i.calls.items i.offers.items in
    let was : IsRunning g.L.Run.pair g.L.Run.k g.L.Run.workers g.L.Run.opening before i.journal.entries = c.self.invariant.0 in
    let of = c.self.invariant.1 in
    let held = c.self.invariant.2 in
    let room : i.journal.room - i.owed.total ≡ c.args.self.now.room = ap (λ (r : Running). r.room) c.self.view_is in
    let q : ℕ = c.args.party in
    let inside : q < length before.calls = omega (arith, c.requires.party, was.calls) in
    let places : ℕ = places_of g.L.Run.pair in
    let x : vector.Split = c.args.vector in
    let v : Standing = c.split_by-added.new.self in
    let added : ℕ = c.split_by-added.result in
    let bits : List Bool = c.into_bits-bits.result in
    let bits_is : bits ≡ x.bits = c.into_bits-bits.ensures.bits in
    let may : MaySplit g.L.Run.pair g.L.Run.k bits = may_of_run g.L.Run.pair g.L.Run.k x bits bits_is c.requires.own c.into_bits-bits.ensures.may in
    let d : Divided places before.classes bits v.classes added = divided_is g.L.Run.pair v i.version x.bits bits added of.pair_is was.supported.partition bits_is c.split_by-added.ensures.split c.split_by-added.ensures.count (omega arith) in
    let number_is : v.number ≡ i.version.number + 1 = c.split_by-added.ensures.number (omega arith) in
    let marks_is : c.split.new.self ≡ lasting_marks v.classes i.marks = c.split.ensures in
    let after : State = called q (cleared q (divided v.classes before)) in
    rw (← c.self.view_is, ← bits_is) ((inside, refl, (v.classes, d.split, d.some, d.count, rw (c.note_split.ensures.calls, marks_is, number_is) refl)), c.note_split.ensures.entries)

pub returns-clause-stays : goal.returns-clause-stays
returns-clause-stays g c of =
    let i = c.self.inside in
    let before : State = state_of i.version i.marks i.calls.items i.offers.items in
    let was : IsRunning g.L.Run.pair g.L.Run.k g.L.Run.workers g.L.Run.opening before i.journal.entries = c.self.invariant.0 in
    let places : ℕ = places_of g.L.Run.pair in
    let x : vector.Split = c.args.vector in
    let v : Standing = c.split_by-added.new.self in
    let added : ℕ = c.split_by-added.result in
    let bits : List Bool = c.into_bits-bits.result in
    let bits_is : bits ≡ x.bits = c.into_bits-bits.ensures.bits in
    let may : MaySplit g.L.Run.pair g.L.Run.k bits = may_of_run g.L.Run.pair g.L.Run.k x bits bits_is c.requires.own c.into_bits-bits.ensures.may in
    let d : Divided places before.classes bits v.classes added = divided_is g.L.Run.pair v i.version x.bits bits added c.self.invariant.1.pair_is was.supported.partition bits_is c.split_by-added.ensures.split c.split_by-added.ensures.count (omega arith) in
    let classes_is : before.classes ≡ c.args.self.now.state.classes = ap (λ (r : Running). r.state.classes) c.self.view_is in
    (unsplit g.L.Run.pair g.L.Run.k (Split bits added) before v.classes was.supported (subst (AreOfGreatest g.L.Run.pair g.L.Run.k) (sym classes_is) of) may (d.split, d.some, d.count)).0 ∙ classes_is

pub split-requires : goal.split-requires
split-requires g c =
    let i = c.self.inside in
    let before : State = state_of i.version i.marks i.calls.items i.offers.items in
    let was : IsRunning g.L.Run.pair g.L.Run.k g.L.Run.workers g.L.Run.opening before i.journal.entries = c.self.invariant.0 in
    let places : ℕ = places_of g.L.Run.pair in
    let x : vector.Split = c.args.vector in
    let v : Standing = c.split_by-added.new.self in
    let added : ℕ = c.split_by-added.result in
    let d : Divided places before.classes x.bits v.classes added = divided_is g.L.Run.pair v i.version x.bits x.bits added c.self.invariant.1.pair_is was.supported.partition refl c.split_by-added.ensures.split c.split_by-added.ensures.count (omega arith) in
    was.supported.marks ∙ sym d.split.partition.least_len

pub note_already-requires-clause-row : goal.note_already-requires-clause-row
note_already-requires-clause-row g c =
    row_of_run g.L.Run.pair g.L.Run.k c.args.vector c.into_bits-bits.result c.self.inside.journal.cells c.rows_by_leaves.ensures.split c.self.invariant.3 (subst IsSoundPair c.product.ensures.pair c.cells-cells.ensures.pair) c.into_bits-bits.ensures.bits c.requires.own c.into_bits-bits.ensures.may

pub note_split-requires-clause-row : goal.note_split-requires-clause-row
note_split-requires-clause-row g c =
    row_of_run g.L.Run.pair g.L.Run.k c.args.vector c.into_bits-bits.result c.self.inside.journal.cells c.rows_by_leaves.ensures.split c.self.invariant.3 (subst IsSoundPair c.product.ensures.pair c.cells-cells.ensures.pair) c.into_bits-bits.ensures.bits c.requires.own c.into_bits-bits.ensures.may
