-- What a builder does that creates a service, for all names of a machine.
use Rattle.std.proofs.Common.{◌≡◌, ℕ, Bool, true, false, cond, ◌&&◌, List, ◌++◌, IfOk, refl, sym, subst, arith}
use Rattle.std.specs.List.{IsAmong}
use Rattle.iox_command.specs.NegotiateBase.DescribeBase.declared.pattern.MessagingPattern.{MessagingPattern}
use Rattle.iox_command.specs.Patterns.{pattern_of}
use Rattle.iox_machine.specs.Agreement.{Agreement}
use Rattle.iox_machine.specs.Asked.{settings_of}
use Rattle.iox_machine.specs.Phase.{same_pattern}
use Rattle.std.specs.Prelude.{bytes_eq}
use Rattle.iox_negotiate.proofs.Maps.{no}
use Rattle.iox_negotiate_machine.proofs.Acted.{all-stand, goes-on, later, own-hash}
use Rattle.iox_negotiate_machine.proofs.Acting.{kind-of, name-itself, pattern-itself}
use Rattle.iox_negotiate_machine.proofs.Creating.{Created, creates}
use Rattle.iox_negotiate_machine.proofs.Limits.{and-true}
use Rattle.iox_negotiate_machine.proofs.Preceding.{begins}
use Rattle.iox_negotiate_machine.proofs.Refusing.{unfit-is}
use Rattle.iox_negotiate_machine.specs.CallLaws.{CreateMatches, IsServiceIn}
use Rattle.iox_negotiate_machine.specs.Laws.{HaveOwnHashes}

-- the numbers that were taken under the name of a call, after it
pub later-here : (names : List (List ℕ)) (own : HaveOwnHashes names) (pattern : MessagingPattern) (name : List ℕ)
    (asked : IsAmong names name)
    (taken : MessagingPattern → List ℕ → List ℕ) (more : List ℕ)
    → later names own pattern name asked taken more pattern name ≡ more ++ taken pattern name
later-here names own pattern name asked taken more = there (same_pattern pattern pattern && bytes_eq name name)
    (and-true _ _ (pattern-itself pattern) (name-itself name))
  where
    there : (b : Bool) → b ≡ true → cond b (more ++ taken pattern name) (taken pattern name) ≡ more ++ taken pattern name
    there true is = refl
    there false is = no is

pub create-matches : (T E : Type 0) → CreateMatches T E
create-matches T E names types name node storage named attributes steps lists taken old end error result state own asked form room
    listed stands h =
    record {
      later = later names own (pattern_of named) name asked taken made.ends.more;
      goes_on = goes-on names own (pattern_of named) name asked taken made.ends.more;
      found = h.negotiated.answer;
      told = h.negotiated.told;
      after = made.after;
      calls = made.creates;
      opened = subst (λ (numbers : List ℕ). IfOk h.negotiated.answer
          (λ service. IsServiceIn node (pattern_of named) name made.after.phase numbers service))
          (sym (later-here names own (pattern_of named) name asked taken made.ends.more)) made.opened;
      stands = all-stand names own (pattern_of named) name asked taken old end.table state stands made.ends.leaves made.ends.more
          made.after.phase
          made.ends.stands;
    }
  where
    there : Agreement
    there = record { settings = settings_of types named; attributes = attributes }

    made : Created types (pattern_of named) name (own-hash names own (pattern_of named) name asked taken) steps form old
        (taken (pattern_of named) name) node there (record { phase = state.phases (pattern_of named) name; accesses = 0 })
        h.negotiated.answer end
    made = creates types (pattern_of named) name (own-hash names own (pattern_of named) name asked taken) steps form old
        (taken (pattern_of named) name) node there (record { phase = state.phases (pattern_of named) name; accesses = 0 })
        h.refusal h.negotiated.done.made h.negotiated.answer (record { table = old; lists = lists }) end
        (kind-of types named) h.within (unfit-is types named h.refusal h.refused)
        (begins types (pattern_of named) name (own-hash names own (pattern_of named) name asked taken) steps form old
        (taken (pattern_of named) name)
        2 1 lists (state.phases (pattern_of named) name) stands.reached (stands.phases (pattern_of named) name asked) listed (omega arith)
        room)
        h.negotiated.done.told h.negotiated.done.went
