-- One more line of a log.
use Rattle.std.proofs.Common.{◌≡◌, ℕ, ℤ, List, [], ◌∷◌, ◌++◌, sym, subst, append_assoc}
use Rattle.std.proofs.lemmas.List.{append-nil, map-append}
use Rattle.sat_log.specs.Derivations.{Line, Follows, AllFollow, EndsEmpty, clauses_of}

pub follow_push : (vars : ℕ) (db : List (List ℤ)) (ls : List Line) (l : Line) → AllFollow vars db ls → Follows vars (db ++ clauses_of ls) l → AllFollow vars db (ls ++ l ∷ [])
follow_push vars db [] l all f = (subst (λ (cs : List (List ℤ)). Follows vars cs l) (append-nil db) f, tt)
follow_push vars db (x ∷ ls) l all f = (all.0, follow_push vars (db ++ x.literals ∷ []) ls l all.1 (subst (λ (cs : List (List ℤ)). Follows vars cs l) (sym (append_assoc db (x.literals ∷ []) (clauses_of ls))) f))

pub clauses_push : (ls : List Line) (l : Line) → clauses_of (ls ++ l ∷ []) ≡ clauses_of ls ++ l.literals ∷ []
clauses_push ls l = map-append (λ (x : Line). x.literals) ls (l ∷ [])

-- the empty clause ends a log
pub ends_push : (ls : List Line) (l : Line) → l.literals ≡ [] → EndsEmpty (ls ++ l ∷ [])
ends_push [] l e = e
ends_push (x ∷ []) l e = e
ends_push (x ∷ y ∷ ls) l e = ends_push (y ∷ ls) l e
