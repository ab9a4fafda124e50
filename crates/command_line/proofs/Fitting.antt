-- Which commands are fit for a parse, by tests that compute.
use Rattle.std.proofs.Common.{◌≡◌, ◌==◌, Bool, true, false, not, List, [], ◌∷◌, sym, subst, refl, eqb-true}
use Rattle.std.specs.List.{list_all}
use Rattle.clap.specs.Facts.{unwrap_or_range}
use Rattle.clap.specs.Simple.{Shape}
use Rattle.clap.specs.Walk.{Rule, Text, action_of, is_empty}
use Rattle.clap.specs.declared.builder.action.ArgAction.{ArgAction}
use Rattle.clap.specs.declared.builder.action.ArgAction.TheVariants.{Set, SetTrue, Help}
use Rattle.command_line.proofs.Rows.{Each, KeepsRead, flag_keeps, help_keeps, set_keeps}
use Rattle.command_line.proofs.Distinct.{are_distinct, each_both, each_passes, each_weaker, found_by_id}
use Rattle.command_line.proofs.Ends.{IsFit, IsOwn}

-- a rule takes one value, or is a flag or help
abbrev kept_by : ArgAction → Rule → Bool
kept_by Set a = (unwrap_or_range a.range).start_inclusive == 1
kept_by SetTrue a = not (is_empty a.missing)
kept_by Help a = true
kept_by other a = false

abbrev pub is_kept : Rule → Bool
is_kept a = kept_by (action_of a) a

keeps : (c : List Rule) (a : Rule) (x : ArgAction) → IsOwn c a → action_of a ≡ x → kept_by x a ≡ true → KeepsRead c false a
keeps c a Set own is e = set_keeps c a own is (eqb-true _ 1 e)
keeps c a SetTrue own is e = go a.missing refl e
  where
    go : (ms : List Text) → a.missing ≡ ms → not (is_empty ms) ≡ true → KeepsRead c false a
    go [] same h = cc
    go (m ∷ ms) same h = flag_keeps c a m ms own is same
keeps c a Help own is e = help_keeps c a is
keeps c a other own is e = cc

-- such rules are fit
pub fits : (s : Shape) → are_distinct (λ (a : Rule). a.id) s.rules ≡ true → list_all is_kept s.rules ≡ true → s.args_override_self ≡ false → s.subcommand_negates_reqs ≡ false → IsFit s
fits s distinct kept again negates =
    let own : Each (IsOwn s.rules) s.rules = found_by_id (λ (a : Rule). a.id) s.rules distinct in
    let all = each_both (IsOwn s.rules) (λ a. is_kept a ≡ true) s.rules own (each_passes is_kept s.rules kept) in
    record {
      keeps = each_weaker _ (KeepsRead s.rules s.args_override_self) s.rules (λ a h. subst (λ b. KeepsRead s.rules b a) (sym again) (keeps s.rules a (action_of a) h.0 refl h.1)) all;
      own = own;
      negates = negates;
    }
