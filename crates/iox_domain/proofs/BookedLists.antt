-- What each step at the publishers of a service leaves of what one of them keeps.
use Rattle.std.proofs.Common.{◌≡◌, ◌≢◌, ◌⊎◌, [], ℕ, Bool, true, false, List, Option, None, Some, Result, Ok, Err, refl, sym, ap, ◌∙◌}
use Rattle.std.proofs.Common.{subst, if◌then◌else◌, inl, inr}
use Rattle.std.proofs.lemmas.Bool.{cases_eq}
use Rattle.std.specs.declared.alloc.AllocError.{AllocError}
use Rattle.iox_domain.specs.DomainPorts.Messages.{Message}
use Rattle.iox_domain.specs.DomainPorts.Ports.{connection_of, connection_to, detached_at}
use Rattle.iox_domain.specs.DomainPorts.declared.publisher_port.PublisherPort.{PublisherPort}
use Rattle.iox_domain.specs.DomainPorts.Publishers as publishers
use Rattle.iox_domain.specs.DomainPorts.Publishers.{port_of, port_stands, with_port, changed, changed_at_port, connection_in}
use Rattle.iox_domain.specs.DomainPorts.Publishers.{connection_at_port, is_over_in, removed, ended_if_left, released, AttachesAtPort}
use Rattle.iox_domain.specs.DomainPorts.Reading.{given_back_at}
use Rattle.iox_domain.specs.Order.{leads_at, leads_at_port}
use Rattle.iox_domain.proofs.Booked.{PortBooks, PortKept, steady_port, attaches_steady, detached_kept, if_left_steady, given_back_steady}
use Rattle.iox_domain.proofs.Books.{Books, Missing}
use Rattle.iox_domain.proofs.Numbered.{at_number, other_fails, other_set, same_set, other_gone}
use Rattle.iox_domain.proofs.Sole.{IsSole, sole_set, sole_gone, none_left}
use Rattle.iox_domain.proofs.Walks.{Walks, WalksLeaving}

-- what is kept of the publisher of a number, if it is found, of which there is one at most
pub record Booked {T U : Type 0} (publisher index subscriber : ℕ) (sent taken : List (Message T U))
    (ports : List (ℕ × PublisherPort T U)) : Type 0 where
  pub sole : IsSole publisher ports
  pub books : (port : PublisherPort T U) → port_of publisher ports ≡ Some port → Books index subscriber sent taken port
  pub missing : (port : PublisherPort T U) → port_of publisher ports ≡ Some port → Missing index subscriber sent taken port

-- What stays true after a step of the publishers.
pub record ListBooks {T U : Type 0} (publisher index subscriber : ℕ) (old new : List (ℕ × PublisherPort T U)) : Type 0 where
  pub keeps : (sent taken : List (Message T U)) → Booked publisher index subscriber sent taken old
      → Booked publisher index subscriber sent taken new
  pub waits : IsSole publisher old → ((connection_in publisher index new).waiting ≡ (connection_in publisher index old).waiting)
      ⊎ ((connection_in publisher index new).waiting ≡ [])
  pub came : IsSole publisher old → leads_at_port index subscriber (port_of publisher new) ≡ true
      → (leads_at_port index subscriber (port_of publisher old) ≡ true) ⊎ ((connection_in publisher index new).waiting ≡ [])
  pub sole : IsSole publisher old → IsSole publisher new
  pub lost : IsSole publisher old → leads_at_port index subscriber (port_of publisher old) ≡ true
      → leads_at_port index subscriber (port_of publisher new) ≡ false → port_stands (port_of publisher new) ≡ false
  pub left : IsSole publisher old → port_stands (port_of publisher old) ≡ false → port_stands (port_of publisher new) ≡ false

-- the publisher is found as before
pub lists_found : {T U : Type 0} (publisher index subscriber : ℕ) (old new : List (ℕ × PublisherPort T U))
    → port_of publisher new ≡ port_of publisher old → (IsSole publisher old → IsSole publisher new)
    → ListBooks publisher index subscriber old new
lists_found publisher index subscriber old new same sole = record {
  keeps = λ sent taken booked. record {
    sole = sole booked.sole;
    books = λ port there. booked.books port (sym same ∙ there);
    missing = λ port there. booked.missing port (sym same ∙ there);
  };
  waits = λ is. inl (ap (λ found. (connection_at_port index found).waiting) same);
  came = λ is led. inl (sym (ap (λ found. leads_at_port index subscriber found) same) ∙ led);
  sole = sole;
  lost = λ is led off. let no : false ≡ true = sym off ∙ ap (λ found. leads_at_port index subscriber found) same ∙ led in absurd (cc);
  left = λ is left. ap (λ found. port_stands found) same ∙ left;
}

pub lists_stay : {T U : Type 0} (publisher index subscriber : ℕ) (ports : List (ℕ × PublisherPort T U))
    → ListBooks publisher index subscriber ports ports
lists_stay publisher index subscriber ports = lists_found publisher index subscriber ports ports refl (λ sole. sole)

pub lists_on : {T U : Type 0} (publisher index subscriber : ℕ) (old between new : List (ℕ × PublisherPort T U))
    → ListBooks publisher index subscriber old between → ListBooks publisher index subscriber between new
    → ListBooks publisher index subscriber old new
lists_on {T} {U} publisher index subscriber old between new one two = record {
  keeps = λ sent taken booked. two.keeps sent taken (one.keeps sent taken booked);
  waits = λ sole. waits (two.waits (one.sole sole)) (one.waits sole);
  came = λ sole led. came (two.came (one.sole sole) led) (two.waits (one.sole sole)) (one.came sole);
  sole = λ sole. two.sole (one.sole sole);
  lost = λ sole led off. lost (leads_at_port index subscriber (port_of publisher between)) refl sole led off;
  left = λ sole left. two.left (one.sole sole) (one.left sole left);
}
  where
    lost : (still : Bool) → leads_at_port index subscriber (port_of publisher between) ≡ still → IsSole publisher old
        → leads_at_port index subscriber (port_of publisher old) ≡ true → leads_at_port index subscriber (port_of publisher new) ≡ false
        → port_stands (port_of publisher new) ≡ false
    lost true still sole led off = two.lost (one.sole sole) still off
    lost false still sole led off = two.left (one.sole sole) (one.lost sole led still)

    waits : ((connection_in publisher index new).waiting ≡ (connection_in publisher index between).waiting)
        ⊎ ((connection_in publisher index new).waiting ≡ [])
        → ((connection_in publisher index between).waiting ≡ (connection_in publisher index old).waiting)
        ⊎ ((connection_in publisher index between).waiting ≡ [])
        → ((connection_in publisher index new).waiting ≡ (connection_in publisher index old).waiting)
        ⊎ ((connection_in publisher index new).waiting ≡ [])
    waits (inr none) before = inr none
    waits (inl same) (inl before) = inl (same ∙ before)
    waits (inl same) (inr none) = inr (same ∙ none)

    came : (leads_at_port index subscriber (port_of publisher between) ≡ true) ⊎ ((connection_in publisher index new).waiting ≡ [])
        → ((connection_in publisher index new).waiting ≡ (connection_in publisher index between).waiting)
        ⊎ ((connection_in publisher index new).waiting ≡ [])
        → (leads_at_port index subscriber (port_of publisher between) ≡ true
        → (leads_at_port index subscriber (port_of publisher old) ≡ true) ⊎ ((connection_in publisher index between).waiting ≡ []))
        → (leads_at_port index subscriber (port_of publisher old) ≡ true) ⊎ ((connection_in publisher index new).waiting ≡ [])
    came (inr none) waited before = inr none
    came (inl led) (inr none) before = inr none
    came (inl led) (inl same) before = still (before led)
      where
        still : (leads_at_port index subscriber (port_of publisher old) ≡ true) ⊎ ((connection_in publisher index between).waiting ≡ [])
            → (leads_at_port index subscriber (port_of publisher old) ≡ true) ⊎ ((connection_in publisher index new).waiting ≡ [])
        still (inl was) = inl was
        still (inr none) = inr (same ∙ none)

one_port : {T U : Type 0} (one other : PublisherPort T U) (found : Option (PublisherPort T U)) → found ≡ Some one → found ≡ Some other
    → one ≡ other
one_port one other found first second = let both : Some one ≡ Some other = sym first ∙ second in cc

-- a publisher took a step
pub lists_with : {T U : Type 0} (publisher index subscriber number : ℕ) (ports : List (ℕ × PublisherPort T U))
    (port after : PublisherPort T U) → port_of number ports ≡ Some port → PortBooks index subscriber port after
    → ListBooks publisher index subscriber ports (with_port number ports after)
lists_with {T} {U} publisher index subscriber number ports port after there step = elim (cases_eq publisher number) [
  | inl same ↦
      let before : port_of publisher ports ≡ Some port = ap (λ n. port_of n ports) same ∙ there in
      let now : port_of publisher (with_port number ports after) ≡ Some after
      = ap (λ n. port_of n (with_port number ports after)) same ∙ same_set (at_number number) ports after port there in
      record {
        keeps = λ sent taken booked.
            let kept = step.keeps sent taken (booked.books port before) (booked.missing port before) in
            record {
              sole = sole_set publisher (at_number number) ports after booked.sole;
              books = λ found is. subst (λ (one : PublisherPort T U). Books index subscriber sent taken one)
                  (one_port after found _ now is) kept.0;
              missing = λ found is. subst (λ (one : PublisherPort T U). Missing index subscriber sent taken one)
                  (one_port after found _ now is) kept.1;
            };
        waits = λ sole. waits now before step.waits;
        came = λ sole led. came now before (step.came (sym (ap (λ found. leads_at_port index subscriber found) now) ∙ led));
        sole = sole_set publisher (at_number number) ports after;
        lost = λ sole led off. ap (λ found. port_stands found) now
            ∙ step.lost (sym (ap (λ found. leads_at_port index subscriber found) before) ∙ led)
            (sym (ap (λ found. leads_at_port index subscriber found) now) ∙ off);
        left = λ sole left. ap (λ found. port_stands found) now ∙ step.left (sym (ap (λ found. port_stands found) before) ∙ left);
      }
  | inr other ↦ lists_found publisher index subscriber ports (with_port number ports after)
      (other_set (at_number number) (at_number publisher) ports after (other_fails publisher number other))
      (sole_set publisher (at_number number) ports after)
]
  where
    waits : port_of publisher (with_port number ports after) ≡ Some after → port_of publisher ports ≡ Some port
        → ((connection_of index after).waiting ≡ (connection_of index port).waiting) ⊎ ((connection_of index after).waiting ≡ [])
        → ((connection_in publisher index (with_port number ports after)).waiting ≡ (connection_in publisher index ports).waiting)
        ⊎ ((connection_in publisher index (with_port number ports after)).waiting ≡ [])
    waits now before (inl same) = inl (ap (λ found. (connection_at_port index found).waiting) now ∙ same ∙ sym
        (ap (λ found. (connection_at_port index found).waiting) before))
    waits now before (inr none) = inr (ap (λ found. (connection_at_port index found).waiting) now ∙ none)

    came : port_of publisher (with_port number ports after) ≡ Some after → port_of publisher ports ≡ Some port
        → (leads_at index subscriber port ≡ true) ⊎ ((connection_of index after).waiting ≡ [])
        → (leads_at_port index subscriber (port_of publisher ports) ≡ true)
        ⊎ ((connection_in publisher index (with_port number ports after)).waiting ≡ [])
    came now before (inl was) = inl (ap (λ found. leads_at_port index subscriber found) before ∙ was)
    came now before (inr none) = inr (ap (λ found. (connection_at_port index found).waiting) now ∙ none)

lists_changed_at : {T U : Type 0} (publisher index subscriber number : ℕ) (step : PublisherPort T U → PublisherPort T U)
    (found : Option (PublisherPort T U)) (ports : List (ℕ × PublisherPort T U))
    → ((port : PublisherPort T U) → PortBooks index subscriber port (step port))
    → port_of number ports ≡ found → ListBooks publisher index subscriber ports (changed_at_port number step found ports)
lists_changed_at publisher index subscriber number step None ports books there = lists_stay publisher index subscriber ports
lists_changed_at publisher index subscriber number step (Some port) ports books there
    = lists_with publisher index subscriber number ports port (step port) there (books port)

pub lists_changed : {T U : Type 0} (publisher index subscriber number : ℕ) (step : PublisherPort T U → PublisherPort T U)
    (ports : List (ℕ × PublisherPort T U)) → ((port : PublisherPort T U) → PortBooks index subscriber port (step port))
    → ListBooks publisher index subscriber ports (changed number step ports)
lists_changed publisher index subscriber number step ports books
    = lists_changed_at publisher index subscriber number step (port_of number ports) ports books refl

-- a publisher that is over is gone
lists_gone : {T U : Type 0} (publisher index subscriber number : ℕ) (ports : List (ℕ × PublisherPort T U))
    → ListBooks publisher index subscriber ports (removed number ports)
lists_gone {T} {U} publisher index subscriber number ports = elim (cases_eq publisher number) [
  | inl same ↦
      let none : IsSole publisher ports → port_of publisher (removed number ports) ≡ None
      = λ sole. ap (λ n. port_of publisher (removed n ports)) (sym same) ∙ none_left publisher ports sole in
      record {
        keeps = λ sent taken booked. record {
          sole = sole_gone publisher (at_number number) ports booked.sole;
          books = λ port there. let no : None ≡ Some port = sym (none booked.sole) ∙ there in absurd (cc);
          missing = λ port there. let no : None ≡ Some port = sym (none booked.sole) ∙ there in absurd (cc);
        };
        waits = λ sole. inr (ap (λ found. (connection_at_port index found).waiting) (none sole));
        came = λ sole led. inr (ap (λ found. (connection_at_port index found).waiting) (none sole));
        sole = sole_gone publisher (at_number number) ports;
        lost = λ sole led off. ap (λ found. port_stands found) (none sole);
        left = λ sole left. ap (λ found. port_stands found) (none sole);
      }
  | inr other ↦ lists_found publisher index subscriber ports (removed number ports)
      (other_gone (at_number number) (at_number publisher) ports (other_fails publisher number other))
      (sole_gone publisher (at_number number) ports)
]

lists_if : {T U : Type 0} (publisher index subscriber : ℕ) (test : Bool) (ports one other : List (ℕ × PublisherPort T U))
    → ListBooks publisher index subscriber ports one → ListBooks publisher index subscriber ports other
    → ListBooks publisher index subscriber ports (if test then one else other)
lists_if publisher index subscriber true ports one other books_one books_other = books_one
lists_if publisher index subscriber false ports one other books_one books_other = books_other

pub lists_settled : {T U : Type 0} (publisher index subscriber number : ℕ) (ports : List (ℕ × PublisherPort T U))
    → ListBooks publisher index subscriber ports (publishers.settled number ports)
lists_settled publisher index subscriber number ports =
    lists_if publisher index subscriber (is_over_in number ports) ports (removed number ports) ports
    (lists_gone publisher index subscriber number ports) (lists_stay publisher index subscriber ports)

-- a subscriber attaches
lists_attach : {T U : Type 0} (publisher index subscriber number reading limit : ℕ) (found : Option (PublisherPort T U))
    (old new : List (ℕ × PublisherPort T U)) (answer : Option (Result ℕ AllocError)) → port_of number old ≡ found
    → AttachesAtPort number reading limit found old answer new → ListBooks publisher index subscriber old new
lists_attach publisher index subscriber number reading limit None old new answer there attaches
    = rw (attaches.1) (lists_stay publisher index subscriber old)
lists_attach publisher index subscriber number reading limit (Some port) old new None there attaches = absurd attaches
lists_attach publisher index subscriber number reading limit (Some port) old new (Some (Err error)) there attaches
    = rw (attaches.1) (lists_stay publisher index subscriber old)
lists_attach {T} {U} publisher index subscriber number reading limit (Some port) old new (Some (Ok at)) there attaches =
    let after : PublisherPort T U = attaches.0 in
    let (joined, joins, is) = attaches.1 in
    rw (attaches.2) (lists_with publisher index subscriber number old port after there
    (steady_port index subscriber port after
    (attaches_steady index subscriber reading _ at (connection_to reading port) port joined after refl joins is)))

lists_ended : {T U : Type 0} (publisher index subscriber number at : ℕ) (ports : List (ℕ × PublisherPort T U))
    → ListBooks publisher index subscriber ports (publishers.settled number (changed number (ended_if_left at) ports))
lists_ended publisher index subscriber number at ports =
    lists_on publisher index subscriber ports (changed number (ended_if_left at) ports) _
    (lists_changed publisher index subscriber number (ended_if_left at) ports
    (λ port. steady_port index subscriber port (ended_if_left at port) (if_left_steady index subscriber at port.stands port refl)))
    (lists_settled publisher index subscriber number (changed number (ended_if_left at) ports))

-- so it is with each step of a subscriber
pub book_walks : {T U : Type 0} (publisher index subscriber reading : ℕ)
    → Walks reading (λ (old : List (ℕ × PublisherPort T U)) (new : List (ℕ × PublisherPort T U)). ListBooks publisher index subscriber
    old new)
book_walks publisher index subscriber reading = record {
  stays = lists_stay publisher index subscriber;
  on = lists_on publisher index subscriber;
  attach = λ number limit old new answer attaches. lists_attach publisher index subscriber number reading limit (port_of number old) old
      new answer refl attaches;
  end = λ attached ports. lists_ended publisher index subscriber attached.publisher attached.index ports;
}

-- What stays true when a subscriber leaves: a connection of an existing publisher may be removed.
pub record ListKept {T U : Type 0} (publisher index subscriber : ℕ) (old new : List (ℕ × PublisherPort T U)) : Type 0 where
  pub keeps : (sent taken : List (Message T U)) → Booked publisher index subscriber sent taken old
      → Booked publisher index subscriber sent taken new
  pub sole : IsSole publisher old → IsSole publisher new

pub kept_lists : {T U : Type 0} (publisher index subscriber : ℕ) (old new : List (ℕ × PublisherPort T U))
    → ListBooks publisher index subscriber old new → ListKept publisher index subscriber old new
kept_lists publisher index subscriber old new lists = record { keeps = lists.keeps; sole = lists.sole }

kept_with : {T U : Type 0} (publisher index subscriber number : ℕ) (ports : List (ℕ × PublisherPort T U))
    (port after : PublisherPort T U) → port_of number ports ≡ Some port → PortKept index subscriber port after
    → ListKept publisher index subscriber ports (with_port number ports after)
kept_with {T} {U} publisher index subscriber number ports port after there step = elim (cases_eq publisher number) [
  | inl same ↦
      let before : port_of publisher ports ≡ Some port = ap (λ n. port_of n ports) same ∙ there in
      let now : port_of publisher (with_port number ports after) ≡ Some after
      = ap (λ n. port_of n (with_port number ports after)) same ∙ same_set (at_number number) ports after port there in
      record {
        keeps = λ sent taken booked.
            let kept = step sent taken (booked.books port before) (booked.missing port before) in
            record {
              sole = sole_set publisher (at_number number) ports after booked.sole;
              books = λ found is. subst (λ (one : PublisherPort T U). Books index subscriber sent taken one)
                  (one_port after found _ now is) kept.0;
              missing = λ found is. subst (λ (one : PublisherPort T U). Missing index subscriber sent taken one)
                  (one_port after found _ now is) kept.1;
            };
        sole = sole_set publisher (at_number number) ports after;
      }
  | inr other ↦ kept_lists publisher index subscriber ports (with_port number ports after)
      (lists_found publisher index subscriber ports (with_port number ports after)
      (other_set (at_number number) (at_number publisher) ports after (other_fails publisher number other))
      (sole_set publisher (at_number number) ports after))
]

kept_changed : {T U : Type 0} (publisher index subscriber number : ℕ) (step : PublisherPort T U → PublisherPort T U)
    (found : Option (PublisherPort T U)) (ports : List (ℕ × PublisherPort T U))
    → ((port : PublisherPort T U) → PortKept index subscriber port (step port))
    → port_of number ports ≡ found → ListKept publisher index subscriber ports (changed_at_port number step found ports)
kept_changed publisher index subscriber number step None ports kept there
    = kept_lists publisher index subscriber ports ports (lists_stay publisher index subscriber ports)
kept_changed publisher index subscriber number step (Some port) ports kept there
    = kept_with publisher index subscriber number ports port (step port) there (kept port)

pub kept_walks : {T U : Type 0} (publisher index subscriber reading : ℕ)
    → Walks reading (λ (old : List (ℕ × PublisherPort T U)) (new : List (ℕ × PublisherPort T U)). ListKept publisher index subscriber
    old new)
kept_walks publisher index subscriber reading =
    let walks = book_walks publisher index subscriber reading in
    record {
      stays = λ ports. kept_lists publisher index subscriber ports ports (walks.stays ports);
      on = λ old between new one two. record {
        keeps = λ sent taken booked. two.keeps sent taken (one.keeps sent taken booked);
        sole = λ sole. two.sole (one.sole sole);
      };
      attach = λ number limit old new answer attaches. kept_lists publisher index subscriber old new
          (walks.attach number limit old new answer attaches);
      end = λ attached ports. kept_lists publisher index subscriber ports _ (walks.end attached ports);
    }

pub kept_leaving : {T U : Type 0} (publisher index subscriber : ℕ)
    → WalksLeaving (λ (old : List (ℕ × PublisherPort T U)) (new : List (ℕ × PublisherPort T U)). ListKept publisher index subscriber
    old new)
kept_leaving publisher index subscriber attached ports =
    kept_changed publisher index subscriber attached.publisher (detached_at attached.index) (port_of attached.publisher ports) ports
    (λ port. detached_kept index subscriber attached.index port) refl

-- a message is given back
pub lists_released : {T U : Type 0} (publisher index subscriber number at place : ℕ) (ports : List (ℕ × PublisherPort T U))
    → ListBooks publisher index subscriber ports (released number at (Some place) ports)
lists_released publisher index subscriber number at place ports =
    lists_on publisher index subscriber ports (changed number (given_back_at at (Some place)) ports) _
    (lists_changed publisher index subscriber number (given_back_at at (Some place)) ports
    (λ port. steady_port index subscriber port (given_back_at at (Some place) port)
    (given_back_steady index subscriber at (Some place) port)))
    (lists_settled publisher index subscriber number (changed number (given_back_at at (Some place)) ports))

-- another publisher took a step
pub lists_other : {T U : Type 0} (publisher index subscriber number : ℕ) (step : PublisherPort T U → PublisherPort T U)
    (ports : List (ℕ × PublisherPort T U)) → publisher ≢ number → ListBooks publisher index subscriber ports (changed number step ports)
lists_other {T} {U} publisher index subscriber number step ports not = by_case (port_of number ports)
  where
    by_case : (found : Option (PublisherPort T U)) → ListBooks publisher index subscriber ports (changed_at_port number step found ports)
    by_case None = lists_stay publisher index subscriber ports
    by_case (Some port) = lists_found publisher index subscriber ports (with_port number ports (step port))
        (other_set (at_number number) (at_number publisher) ports (step port) (other_fails publisher number not))
        (sole_set publisher (at_number number) ports (step port))

-- who is found after one that is over went was found before
pub settled_found : {T U : Type 0} (publisher : ℕ) (ports : List (ℕ × PublisherPort T U)) (port : PublisherPort T U)
    → IsSole publisher ports → port_of publisher (publishers.settled publisher ports) ≡ Some port → port_of publisher ports ≡ Some port
settled_found {T} {U} publisher ports port sole there = by_case (is_over_in publisher ports) there
  where
    by_case : (over : Bool) → port_of publisher (if over then removed publisher ports else ports) ≡ Some port
        → port_of publisher ports ≡ Some port
    by_case true there = let no : None ≡ Some port = sym (none_left publisher ports sole) ∙ there in absurd (cc)
    by_case false there = there
