-- Which mailboxes a publisher of the machine has after it followed the list of subscribers.
use Rattle.std.proofs.Common.{◌≡◌, ◌≢◌, ◌∷◌, ◌&&◌, ◌||◌, [], ℕ, Bool, true, false, not, List, Option, None, Some, refl, sym, ap, ◌∙◌}
use Rattle.std.proofs.lemmas.Bool.{eqb-true, eq-eqb, ne_eqb}
use Rattle.std.specs.List.{fold}
use Rattle.std.specs.Option.{option_map_or}
use Rattle.std.specs.Prelude.{is_some, option_map, unwrap_or, ◌==◌, if◌then◌else◌}
use Rattle.iox_domain_machine.proofs.FollowSteps.{emptied}
use Rattle.iox_domain_machine.proofs.FollowTied.{greeting}
use Rattle.iox_domain_machine.proofs.Found.{same_everywhere}
use Rattle.iox_machine.specs.Mailbox.{Mailbox, newest}
use Rattle.iox_machine.specs.Message.{Message}
use Rattle.iox_machine.specs.PortList.{those}
use Rattle.iox_machine.specs.PublisherUpdate.{ended, welcome}
use Rattle.iox_machine.specs.Service.{Service, Subscriber, mailbox, with_mailbox, connect}
use Rattle.iox_machine.specs.Table.{at, contains}

module _ {T : Type 0} (number : ℕ) (history : List (Message T)) (subscribers : List (ℕ × Subscriber)) where
  abbrev Boxes : Type 0
  Boxes = ℕ → ℕ → Option (Mailbox T)

  abbrev pub greeted : ℕ → Boxes → Boxes
  greeted subscriber boxes one other =
      if (one == number) && (other == subscriber) then Some (greeting history subscribers subscriber (boxes number subscriber))
      else boxes one other

  abbrev pub all_greeted : List ℕ → Boxes → Boxes
  all_greeted [] boxes = boxes
  all_greeted (subscriber ∷ more) boxes = all_greeted more (greeted subscriber boxes)

  -- the mailboxes of other publishers stay
  pub greeted_others : (xs : List ℕ) (boxes : Boxes) (one other : ℕ) → one ≢ number → all_greeted xs boxes one other ≡ boxes one other
  greeted_others [] boxes one other off = refl
  greeted_others (x ∷ xs) boxes one other off =
      greeted_others xs (greeted x boxes) one other off
      ∙ ap (λ b. if b && (other == x) then Some (greeting history subscribers x (boxes number x)) else boxes one other)
      (ne_eqb one number off)

  greeted_by : (x other : ℕ) (boxes : Boxes) (b : Bool) → (other == x) ≡ b
      → greeted x boxes number other ≡ (if b then Some (greeting history subscribers other (boxes number other)) else boxes number other)
  greeted_by x other boxes true is =
      ap (λ b. if b && (other == x) then Some (greeting history subscribers x (boxes number x)) else boxes number other)
      (eq-eqb number number refl)
      ∙ ap (λ b. if b then Some (greeting history subscribers x (boxes number x)) else boxes number other) is
      ∙ ap (λ n. Some (greeting history subscribers n (boxes number n))) (sym (eqb-true other x is))
  greeted_by x other boxes false is =
      ap (λ b. if b && (other == x) then Some (greeting history subscribers x (boxes number x)) else boxes number other)
      (eq-eqb number number refl)
      ∙ ap (λ b. if b then Some (greeting history subscribers x (boxes number x)) else boxes number other) is

  -- whoever is greeted twice is greeted
  twice : (b : Bool) (other : ℕ) (found : Option (Mailbox T))
      → (if b then Some (greeting history subscribers other (Some (greeting history subscribers other found)))
      else Some (greeting history subscribers other found))
      ≡ Some (greeting history subscribers other found)
  twice true other found = refl
  twice false other found = refl

  same_number : (other x : ℕ) (b : Bool) → (other == x) ≡ b → (x == other) ≡ b
  same_number other x true is = eq-eqb x other (sym (eqb-true other x is))
  same_number other x false is = ne_eqb x other (λ same. differ (sym (eq-eqb other x (sym same)) ∙ is))
    where
      differ : true ≡ false → ⊥
      differ e = cc

  -- who is greeted has the mailbox of a new subscriber, and everybody else the one before
  pub greeted_here : (xs : List ℕ) (boxes : Boxes) (other : ℕ)
      → all_greeted xs boxes number other
      ≡ (if contains xs other then Some (greeting history subscribers other (boxes number other)) else boxes number other)
  greeted_here [] boxes other = refl
  greeted_here (x ∷ xs) boxes other = greeted_here xs (greeted x boxes) other ∙ by (other == x) refl
    where
      by : (b : Bool) → (other == x) ≡ b
          → (if contains xs other then Some (greeting history subscribers other (greeted x boxes number other))
          else greeted x boxes number other)
          ≡ (if (x == other) || contains xs other then Some (greeting history subscribers other (boxes number other))
          else boxes number other)
      by true is =
          ap (λ found. if contains xs other then Some (greeting history subscribers other found) else found)
          (greeted_by x other boxes true is)
          ∙ twice (contains xs other) other (boxes number other)
          ∙ sym (ap (λ b. if b || contains xs other then Some (greeting history subscribers other (boxes number other))
          else boxes number other) (same_number other x true is))
      by false is =
          ap (λ found. if contains xs other then Some (greeting history subscribers other found) else found)
          (greeted_by x other boxes false is)
          ∙ sym (ap (λ b. if b || contains xs other then Some (greeting history subscribers other (boxes number other))
          else boxes number other) (same_number other x false is))

module _ {T : Type 0} (number : ℕ) (history : List (Message T)) where
  overwritten : {X : Type 0} (b : Bool) (x y z : X) → (if b then x else (if b then y else z)) ≡ (if b then x else z)
  overwritten true x y z = refl
  overwritten false x y z = refl

  module _ (service : Service T) (subscriber : ℕ) where
    abbrev limit : ℕ
    limit = option_map_or (λ (one : Subscriber). one.buffer_size) (at subscriber service.subscribers) 0

    abbrev new_box : Mailbox T
    new_box = record { limit = limit; waiting = []; borrowed = [] }

    abbrev no_box : Mailbox T
    no_box = record { limit = 0; waiting = []; borrowed = [] }

    abbrev put_in : Mailbox T → Service T → Service T
    put_in box met = with_mailbox number subscriber (record box { waiting = newest box.limit history }) met

    abbrev finish : Service T → Service T
    finish met = put_in (mailbox number subscriber met) met

    abbrev Welcomed : Service T → Type 0
    Welcomed met = met ≡ record service { mailboxes = greeted number history service.subscribers subscriber service.mailboxes }

    connected : (found : Option (Mailbox T)) → service.mailboxes number subscriber ≡ found
        → connect limit number subscriber service
        ≡ (if is_some found then service else with_mailbox number subscriber new_box service)
    connected found is = ap (λ one. if is_some one then service else with_mailbox number subscriber new_box service) is

    greets : (found : Option (Mailbox T)) → service.mailboxes number subscriber ≡ found
        → Welcomed (put_in (unwrap_or found new_box) service)
    greets found is = ap (λ one. put_in (unwrap_or one new_box) service) (sym is)

    welcomed_by : (found : Option (Mailbox T)) → service.mailboxes number subscriber ≡ found
        → Welcomed (welcome number history service subscriber)
    welcomed_by (Some box) is =
        ap finish (connected (Some box) is)
        ∙ ap (λ found. put_in (unwrap_or found no_box) service) is
        ∙ greets (Some box) is
    welcomed_by None is =
        let met : Service T = with_mailbox number subscriber new_box service in
        let there : met.mailboxes number subscriber ≡ Some new_box =
        ap (λ b. if b && (subscriber == subscriber) then Some new_box else service.mailboxes number subscriber)
        (eq-eqb number number refl)
        ∙ ap (λ b. if b then Some new_box else service.mailboxes number subscriber) (eq-eqb subscriber subscriber refl) in
        ap finish (connected None is)
        ∙ ap (λ found. put_in (unwrap_or found no_box) met) there
        ∙ ap (λ (boxes : ℕ → ℕ → Option (Mailbox T)). record service { mailboxes = boxes })
        (same_everywhere _ _ (λ one. same_everywhere _ _ (λ other. overwritten ((one == number) && (other == subscriber))
        (Some (record new_box { waiting = newest limit history })) (Some new_box) (service.mailboxes one other))))
        ∙ greets None is

    -- a new subscriber is welcomed
    welcome_is : Welcomed (welcome number history service subscriber)
    welcome_is = welcomed_by (service.mailboxes number subscriber) refl

  -- and so are all
  pub all_welcomed : (subscribers : List ℕ) (service : Service T)
      → fold (welcome number history) service subscribers
      ≡ record service { mailboxes = all_greeted number history service.subscribers subscribers service.mailboxes }
  all_welcomed [] service = refl
  all_welcomed (subscriber ∷ more) service =
      ap (λ met. fold (welcome number history) met more) (welcome_is service subscriber)
      ∙ all_welcomed more (record service { mailboxes = greeted number history service.subscribers subscriber service.mailboxes })

  -- of subscribers that left all that waits is lost
  pub ended_here : (service : Service T) (other : ℕ) (b : Bool) → contains (those service.subscriber_list.places) other ≡ b
      → (ended number service).mailboxes number other
      ≡ (if not b then option_map emptied (service.mailboxes number other) else service.mailboxes number other)
  ended_here service other b is =
      ap (λ own. if own && not (contains (those service.subscriber_list.places) other)
      then option_map emptied (service.mailboxes number other) else service.mailboxes number other) (eq-eqb number number refl)
      ∙ ap (λ listed. if not listed then option_map emptied (service.mailboxes number other) else service.mailboxes number other) is

  pub ended_others : (service : Service T) (one other : ℕ) → one ≢ number
      → (ended number service).mailboxes one other ≡ service.mailboxes one other
  ended_others service one other off =
      ap (λ own. if own && not (contains (those service.subscriber_list.places) other)
      then option_map emptied (service.mailboxes one other) else service.mailboxes one other) (ne_eqb one number off)
