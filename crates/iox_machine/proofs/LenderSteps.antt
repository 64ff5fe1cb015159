-- All that keeps a factory from being closed is of an open factory.
use Rattle.std.proofs.Common.{◌≡◌, ℕ, Bool, true, false, ◌&&◌, List, [], ◌∷◌, ◌++◌, Option, Some, refl, sym, ap, subst, inr, ◌∙◌}
use Rattle.std.proofs.lemmas.Bool.{and_from, or_left, or_right}
use Rattle.std.specs.List.{list_any}
use Rattle.std.specs.Option.{option_map_or}
use Rattle.std.specs.Prelude.{◌==◌, option_map}
use Rattle.iox_machine.proofs.Shorthands.{with_publisher}
use Rattle.iox_machine.specs.Choices.{Choices}
use Rattle.iox_machine.specs.Closing.{is_used_by}
use Rattle.iox_machine.specs.Message.{Loan}
use Rattle.iox_machine.specs.Service.{Service, Publisher, Subscriber, new_service}
use Rattle.iox_machine.specs.State.{Factory, is_service_of, new_state}
use Rattle.iox_machine.specs.Table.{at, removed}
use Rattle.iox_machine.specs.UseLaws.{IsOpen, IsOfOpenFactories, UseIsOwned}
use Rattle.iox_machine.proofs.Cases.{never-some}
use Rattle.iox_machine.proofs.Frames.{holder_of, holder_at}
use Rattle.iox_machine.proofs.Held.{IsOwned, any-at, never, holder-at}
use Rattle.iox_machine.proofs.HeldSteps.{run-owned, used-open}
use Rattle.iox_machine.proofs.Lenders.{HasLenders, KeepsLenders, lenders-turned, lenders-fewer, lenders-come, lenders-more, lenders-set}
use Rattle.iox_machine.proofs.Lenders.{lenders-written}
use Rattle.iox_machine.proofs.Lists.{all-both}
use Rattle.iox_machine.proofs.Tables.{at-kept, at-changed}
use Rattle.iox_command.specs.NegotiateBase.DescribeSettings.declared.static_config.publish_subscribe.StaticConfig.{StaticConfig}
use Rattle.iox_machine.proofs.MoveForms.{Loud, Loudly}
use Rattle.iox_machine.proofs.MoveForms as move
use Rattle.iox_machine.proofs.MoveLaws.{Holds, Lasts, by-quiets, run-holds}

module _ {T : Type 0} where
  lenders-last : (factories : List (ℕ × Factory)) → Lasts (KeepsLenders {T = T} factories)
  lenders-last factories = record {
    none = λ service own. own;
    both = λ one two three h k own. k (h own);
    boxed = λ boxes service own. own;
    alike = λ number was after service found is. lenders-turned factories number was after service found
        (ap (λ (it : Publisher T). it.factory) is) (λ up. sym (ap (λ (it : Publisher T). it.stands) is) ∙ up);
    turned = λ number was after service found is own. own;
  }

  lenders-loud : (factories : List (ℕ × Factory)) (one : Loud T) (old new : Service T) → Loudly factories one old new
      → HasLenders factories old → HasLenders factories new
  lenders-loud factories (move.Lends number was after loan made) old new
      (found, up, ((room, segments, first, grown, is), lent), by, next, came) own =
      subst (HasLenders factories) (sym came)
      (lenders-more factories loan number after made (with_publisher number after old)
      (at-changed number after was old.publishers found) (ap (λ (it : Publisher T). it.stands) is ∙ up) by
      (lenders-turned factories number was after old found (ap (λ (it : Publisher T). it.factory) is) (λ stands. up) own))
  lenders-loud factories (move.Numbers number was after) old new (found, (room, segments, first, grown, is), came) own =
      subst (HasLenders factories) (sym came)
      (lenders-turned factories number was after old found (ap (λ (it : Publisher T). it.factory) is)
      (λ up. sym (ap (λ (it : Publisher T). it.stands) is) ∙ up) own)
  lenders-loud factories (move.Writes loan one values) old new (found, came) own =
      subst (HasLenders factories) (sym came) (lenders-written factories loan one values old found own)
  lenders-loud factories (move.Spends loan one) old new (found, came) own =
      subst (HasLenders factories) (sym came) (lenders-fewer factories loan old own)
  lenders-loud factories (move.Begins number one message) old new (found, free, came) own =
      subst (HasLenders factories) (sym came) (lenders-turned factories number one _ old found refl (λ up. up) own)
  lenders-loud factories (move.Takes number sample) old new (one, first, came) own = subst (HasLenders factories) (sym came) own
  lenders-loud factories (move.Releases number sample) old new (found, came) own = subst (HasLenders factories) (sym came) own
  lenders-loud factories (move.Publishes place number options one after) old new (open_one, follows, is, came) own =
      let of_it : IsOpen factories old.name after.factory =
      subst (λ (k : ℕ). IsOpen factories old.name k) (sym (ap (λ (it : Publisher T). it.factory) is)) open_one in
      subst (HasLenders factories) (sym came)
      (lenders-set factories number after (record old { publishers = old.publishers ++ (number, one) ∷ [] }) (λ stands. of_it) (inr of_it)
      (lenders-come factories number one old open_one own))
  lenders-loud factories (move.Subscribes buffer place number options one after) old new (open_one, follows, is, came) own =
      subst (HasLenders factories) (sym came) own
  lenders-loud factories (move.Unpublishes number one) old new (found, came) own =
      subst (HasLenders factories) (sym came)
      (lenders-turned factories number one (record one { stands = false }) old found refl (λ up. never (sym up)) own)
  lenders-loud factories (move.Unsubscribes number one) old new (found, came) own = subst (HasLenders factories) (sym came) own

  still-open : (old more : List (ℕ × Factory)) (service : Service T) → HasLenders old service → HasLenders (old ++ more) service
  still-open old more service own = (
    (λ number one e stands.
        let it : IsOpen old service.name one.factory = own.0 number one e stands in
        (it.0, at-kept one.factory it.0 old more it.1, it.2)),
    (λ number out e.
        let it : (one : Publisher T) × (at out.publisher service.publishers ≡ Some one) × IsOpen old service.name one.factory =
        own.1 number out e in
        (it.0, it.1, (it.2.0, at-kept it.0.factory it.2.0 old more it.2.1, it.2.2))),
  )

  new-lenders : (factories : List (ℕ × Factory)) (name : List ℕ) (c : StaticConfig) → HasLenders factories (new_service {T = T} name c)
  new-lenders factories name c = ((λ number one e stands. never-some one e), (λ number out e. never-some out e))

  -- a factory of which a publisher stands or lends isn't closed
  module _ (number : ℕ) (factory : Factory) (factories : List (ℕ × Factory)) (found : at number factories ≡ Some factory) where
    standing-counts : (service : Service T) (other : ℕ) (one : Publisher T) → at other service.publishers ≡ Some one → one.stands ≡ true
        → (one.factory == number) ≡ true → is_used_by number service ≡ true
    standing-counts service other one e stands is =
        or_left (list_any (λ (entry : ℕ × Publisher T). entry.1.stands && entry.1.factory == number) service.publishers) _
        (any-at (λ (p : Publisher T). p.stands && p.factory == number) other one service.publishers e
        (and_from one.stands (one.factory == number) stands is))

    lending-counts : (service : Service T) (other : ℕ) (out : Loan T) (one : Publisher T) → at other service.loans ≡ Some out
        → at out.publisher service.publishers ≡ Some one → (one.factory == number) ≡ true → is_used_by number service ≡ true
    lending-counts service other out one e found_one is =
        or_right (list_any (λ (entry : ℕ × Publisher T). entry.1.stands && entry.1.factory == number) service.publishers) _
        (or_right (list_any (λ (entry : ℕ × Subscriber). entry.1.stands && entry.1.factory == number) service.subscribers) _
        (or_left (list_any (λ (entry : ℕ × Loan T). option_map_or (λ (publisher : Publisher T). publisher.factory == number)
        (at entry.1.publisher service.publishers) false) service.loans) _
        (any-at (λ (l : Loan T). option_map_or (λ (publisher : Publisher T). publisher.factory == number)
        (at l.publisher service.publishers) false) other out service.loans e
        (ap (λ (o : Option (Publisher T)). option_map_or (λ (publisher : Publisher T). publisher.factory == number) o false) found_one
        ∙ is))))

    closing-lenders : (service : Service T) → (is_service_of factory service && is_used_by number service) ≡ false
        → HasLenders factories service → HasLenders (removed number factories) service
    closing-lenders service unused own = (
      (λ other one e stands.
          let it : IsOpen factories service.name one.factory = own.0 other one e stands in (
            it.0,
            used-open 0 number factory factories found service unused one.factory it (standing-counts service other one e stands)
                ∙ it.1,
            it.2,
          )),
      (λ other out e.
          let it : (one : Publisher T) × (at out.publisher service.publishers ≡ Some one) × IsOpen factories service.name one.factory =
          own.1 other out e in (
            it.0,
            it.1,
            (
              it.2.0,
              used-open 0 number factory factories found service unused it.0.factory it.2
                  (lending-counts service other out it.0 e it.1) ∙ it.2.1,
              it.2.2,
            ),
          )),
    )

  lenders-hold : Holds (HasLenders {T = T})
  lenders-hold = record {
    fresh = new-lenders;
    opened = still-open;
    shut = closing-lenders;
    quiet = λ factories old new h own. by-quiets (KeepsLenders factories) (lenders-last factories) old new h own;
    loud = lenders-loud;
  }

pub use-is-owned : {T : Type 0} (choices : Choices T) → UseIsOwned choices
use-is-owned {T} choices types buffer asked answers new run =
    all-both (HasLenders new.factories) (IsOwned new.factories) (IsOfOpenFactories new.factories)
    (λ service lenders owned. record {
      publishers = lenders.0;
      loans = lenders.1;
      subscribers = λ number one e stands. owned.0 number (holder_of one) (ap (option_map holder_of) e) stands;
      samples = λ number held e.
          let it : (holder : ℕ × Bool) × (holder_at held.subscriber service ≡ Some holder) × IsOpen new.factories service.name holder.0 =
          owned.1 number held e in
          let sub : (one : Subscriber) × (at held.subscriber service.subscribers ≡ Some one) × (holder_of one ≡ it.0) =
          holder-at (at held.subscriber service.subscribers) it.0 it.1 in
          (sub.0, sub.1, subst (λ (h : ℕ × Bool). IsOpen new.factories service.name h.0) (sym sub.2) it.2);
    }) new.services
    (run-holds HasLenders lenders-hold types choices buffer asked new_state answers new run tt)
    (run-owned 0 types choices buffer asked new_state answers new run tt)
