-- A call that a hub refuses at once is refused at the first storage operation of a machine.
use Rattle.std.proofs.Common.{◌≡◌, ℕ, Bool, List, Some, Err, inr, sym, ap}
use Rattle.std.specs.List.{IsAmong}
use Rattle.iox_command.specs.NegotiateBase.DescribeBase.declared.pattern.MessagingPattern.{MessagingPattern}
use Rattle.iox_command.specs.declared.refusal.Refusal.{Refusal}
use Rattle.iox_domain.specs.declared.ports.service_ports.ServicePorts.{ServicePorts}
use Rattle.iox_domain_machine.specs.Naming.{Naming}
use Rattle.iox_hub_commands.specs.Replies.{factory_reply}
use Rattle.iox_hub_commands.specs.Terms.{Terms}
use Rattle.iox_hub_commands.specs.declared.numbered_hub.NumberedHub.{NumberedHub}
use Rattle.iox_hub_machine.proofs.Answered.{IsAnswered}
use Rattle.iox_hub_machine.proofs.FoundStanding.{same_phase}
use Rattle.iox_hub_machine.proofs.Skipping.{stands_still}
use Rattle.iox_hub_machine.specs.Services.{HubStandsFor}
use Rattle.iox_machine.specs.Choices.{Choices}
use Rattle.iox_machine.specs.Negotiation.{Answer, Call}
use Rattle.iox_machine.specs.State.{State}
use Rattle.iox_negotiate_machine.specs.Laws.{HaveOwnHashes}

module _ {T U B D : Type 0} (terms : Terms T U B D) (choices : Choices T) (names : List (List ℕ)) (own : HaveOwnHashes names)
    (pattern : MessagingPattern) (name : List ℕ) (asked : IsAmong names name) (taken : MessagingPattern → List ℕ → List ℕ)
    (naming : ℕ → Naming) (order : List (ℕ × ServicePorts T U)) (node : ℕ) (old new : NumberedHub T U B D) (state : State T)
    (stands : HubStandsFor choices terms.degrades terms.decides terms.reader_degrades names taken naming order old state) where
  -- The machine's call fails with its one storage operation, and the hub stands for what was.
  pub at_once : {F : Type 0} (Calls : Call → Answer F → Call → Type 0) (told : F → Refusal) (lacks : Bool → F) (failure : F)
      (why : Refusal) → why ≡ told failure
      → Calls (record { phase = state.phases pattern name; accesses = 0 }) (Some (Err failure))
      (record { phase = state.phases pattern name; accesses = 1 })
      → new.hub ≡ old.hub → new.factories.made ≡ old.factories.made → new.made ≡ old.made
      → IsAnswered terms.payload terms.user_header choices terms.degrades terms.decides terms.reader_degrades names own pattern name asked
      taken naming order node old new state stands Calls told lacks (factory_reply (Some (Err why)))
  at_once Calls told lacks failure why is calls still same same_made = record {
    taken_then = taken;
    naming_then = naming;
    order_then = order;
    after = state;
    came = inr (
      Err failure,
      record { phase = state.phases pattern name; accesses = 1 },
      calls,
      (ap (λ (it : Refusal). factory_reply {T = T} (Some (Err it))) is, sym (same_phase pattern name state)),
    );
    stands_then = stands_still terms choices names taken naming order old new state stands still same same_made;
  }
