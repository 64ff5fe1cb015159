-- The machine's update, act by act: who parts, and what mailboxes come.
use Rattle.std.proofs.Common.{◌≡◌, ◌≢◌, ◌⊎◌, ◌∷◌, [], ◌++◌, ◌&&◌, ◌||◌, ◌==◌, ℕ, Bool, true, false, max, not, length, List, Option, None}
use Rattle.std.proofs.Common.{Some, refl, sym, ap, ◌∙◌, inl, inr, nat_lt}
use Rattle.std.proofs.lemmas.Bool.{and_parts, cases_eq, eq-eqb, eqb-true, ne_eqb, or_cases}
use Rattle.std.proofs.lemmas.List.Elements.{All-filter, All-push}
use Rattle.std.specs.List.{All}
use Rattle.std.specs.Prelude.{filter, fold, is_some, if◌then◌else◌}
use Rattle.iox_domain_machine.proofs.Found.{never_true}
use Rattle.iox_machine.specs.Mailbox.{Mailbox, is_idle}
use Rattle.iox_machine.specs.Service.{Service, mailbox, with_mailbox, connect}
use Rattle.iox_machine.specs.SubscriberUpdate.{Parted, part, room_for}
use Rattle.iox_machine.specs.Table.{contains}
use Rattle.iox_machine.proofs.Shorthands.{is_unborrowed}

module _ {T : Type 0} (limit number : ℕ) where
  -- a mailbox of a connection that came
  abbrev pub empty_box : Mailbox T
  empty_box = record { limit = limit; waiting = []; borrowed = [] }

  -- all of these are connected
  abbrev pub connects : Service T → List ℕ → Service T
  connects service ports = fold (λ service publisher. connect limit publisher number service) service ports

  -- what a mailbox is after one connection more
  abbrev after_one : Bool → ℕ → Service T → Service T
  after_one there port service = if there then service else with_mailbox port number empty_box service

  one_kept : (service : Service T) (port one other : ℕ) → is_some (service.mailboxes one other) ≡ true
      → (connect limit port number service).mailboxes one other ≡ service.mailboxes one other
  one_kept service port one other some = by (is_some (service.mailboxes port number)) refl ((one == port) && (other == number)) refl
    where
      by : (there : Bool) → is_some (service.mailboxes port number) ≡ there → (its : Bool) → ((one == port) && (other == number)) ≡ its
          → (after_one there port service).mailboxes one other ≡ service.mailboxes one other
      by true is its at = refl
      by false is false at = ap (λ c. if c then Some empty_box else service.mailboxes one other) at
      by false is true at =
          let both = and_parts (one == port) (other == number) at in
          never_true (sym is ∙ ap (λ n. is_some (service.mailboxes n number)) (sym (eqb-true one port both.0))
          ∙ ap (λ n. is_some (service.mailboxes one n)) (sym (eqb-true other number both.1)) ∙ some)

  one_off : (service : Service T) (port one other : ℕ) → ((one == port) && (other == number)) ≡ false
      → (connect limit port number service).mailboxes one other ≡ service.mailboxes one other
  one_off service port one other off = by (is_some (service.mailboxes port number))
    where
      by : (there : Bool) → (after_one there port service).mailboxes one other ≡ service.mailboxes one other
      by true = refl
      by false = ap (λ c. if c then Some empty_box else service.mailboxes one other) off

  pub one_came : (service : Service T) (port : ℕ) → service.mailboxes port number ≡ None
      → connect limit port number service ≡ with_mailbox port number empty_box service
  one_came service port none = ap (λ b. after_one b port service) (ap is_some none)

  box_at : (service : Service T) (port : ℕ) → (with_mailbox port number empty_box service).mailboxes port number ≡ Some empty_box
  box_at service port =
      ap (λ b. if b && (number == number) then Some empty_box else service.mailboxes port number) (eq-eqb port port refl)
      ∙ ap (λ b. if b then Some empty_box else service.mailboxes port number) (eq-eqb number number refl)

  pub all_kept : (ports : List ℕ) (service : Service T) (one other : ℕ) → is_some (service.mailboxes one other) ≡ true
      → (connects service ports).mailboxes one other ≡ service.mailboxes one other
  all_kept [] service one other some = refl
  all_kept (port ∷ ports) service one other some =
      let first = one_kept service port one other some in
      all_kept ports (connect limit port number service) one other (ap is_some first ∙ some) ∙ first

  pub all_off : (ports : List ℕ) (service : Service T) (one other : ℕ) → other ≢ number
      → (connects service ports).mailboxes one other ≡ service.mailboxes one other
  all_off [] service one other off = refl
  all_off (port ∷ ports) service one other off =
      all_off ports (connect limit port number service) one other off
      ∙ one_off service port one other (ap (λ b. (one == port) && b) (ne_eqb other number off) ∙ and_false (one == port))
    where
      and_false : (b : Bool) → (b && false) ≡ false
      and_false true = refl
      and_false false = refl

  pub all_else : (ports : List ℕ) (service : Service T) (one other : ℕ) → contains ports one ≡ false
      → (connects service ports).mailboxes one other ≡ service.mailboxes one other
  all_else [] service one other off = refl
  all_else (port ∷ ports) service one other off =
      by (port == one) refl (contains ports one) refl off (all_else ports (connect limit port number service) one other)
    where
      by : (here : Bool) → (port == one) ≡ here → (there : Bool) → contains ports one ≡ there → (here || there) ≡ false
          → (contains ports one ≡ false
          → (connects service (port ∷ ports)).mailboxes one other ≡ (connect limit port number service).mailboxes one other)
          → (connects service (port ∷ ports)).mailboxes one other ≡ service.mailboxes one other
      by true is there has wrong rest = never_true (sym wrong)
      by false is true has wrong rest = never_true (sym wrong)
      by false is false has wrong rest =
          rest has
          ∙ one_off service port one other (ap (λ b. b && (other == number)) (ne_eqb one port
          (λ same. never_true (sym is ∙ eq-eqb port one (sym same)))))

  pub all_came : (ports : List ℕ) (service : Service T) (one : ℕ) → contains ports one ≡ true → service.mailboxes one number ≡ None
      → (connects service ports).mailboxes one number ≡ Some empty_box
  all_came [] service one has none = never_true has
  all_came (port ∷ ports) service one has none = elim (cases_eq one port) [
    | inl same ↦
        let came = one_came service port (ap (λ n. service.mailboxes n number) (sym same) ∙ none) in
        let now : (connect limit port number service).mailboxes one number ≡ Some empty_box =
        ap (λ (s : Service T). s.mailboxes one number) came
        ∙ ap (λ n. (with_mailbox port number empty_box service).mailboxes n number) same ∙ box_at service port in
        all_kept ports (connect limit port number service) one number (ap is_some now) ∙ now
    | inr off ↦
        all_came ports (connect limit port number service) one (others off (or_cases (port == one) (contains ports one) has))
        (one_off service port one number (ap (λ b. b && (number == number)) (ne_eqb one port off)) ∙ none)
  ]
    where
      others : one ≢ port → ((port == one) ≡ true) ⊎ (contains ports one ≡ true) → contains ports one ≡ true
      others off (inl here) = absurd (off (sym (eqb-true port one here)))
      others off (inr there) = there

  -- nothing but mailboxes comes
  pub only_boxes : (ports : List ℕ) (service : Service T)
      → connects service ports ≡ record service { mailboxes = (connects service ports).mailboxes }
  only_boxes [] service = refl
  only_boxes (port ∷ ports) service =
      only_boxes ports (connect limit port number service) ∙ by (is_some (service.mailboxes port number))
    where
      by : (there : Bool) → record (after_one there port service) { mailboxes = (connects service (port ∷ ports)).mailboxes }
          ≡ record service { mailboxes = (connects service (port ∷ ports)).mailboxes }
      by true = refl
      by false = refl

-- what becomes of the connection of a publisher that left
module _ {T : Type 0} (buffer number : ℕ) (service : Service T) (parted : Parted) (publisher : ℕ) where
  abbrev most : ℕ
  most = max buffer service.settings.subscriber_max_borrowed_samples

  pub part_idle : is_idle (mailbox publisher number service) ≡ true → part buffer number service parted publisher ≡ parted
  part_idle idle = rw idle refl

  pub part_room : is_idle (mailbox publisher number service) ≡ false → nat_lt (length parted.expired) most ≡ true
      → part buffer number service parted publisher ≡ record parted { expired = parted.expired ++ publisher ∷ [] }
  part_room busy room = rw busy (rw room refl)

  pub part_out : (out : ℕ) → is_idle (mailbox publisher number service) ≡ false → nat_lt (length parted.expired) most ≡ false
      → room_for buffer number publisher parted.expired service ≡ Some out
      → part buffer number service parted publisher
      ≡ record parted { expired = filter (λ other. not (other == out)) parted.expired ++ publisher ∷ [] }
  part_out out busy full found = rw busy (rw full (rw found refl))

  pub part_ends : is_idle (mailbox publisher number service) ≡ false → nat_lt (length parted.expired) most ≡ false
      → room_for buffer number publisher parted.expired service ≡ None → is_unborrowed buffer number service publisher ≡ true
      → part buffer number service parted publisher ≡ parted
  part_ends busy full none unborrowed = rw busy (rw full (rw none (rw unborrowed refl)))

  pub part_stays : is_idle (mailbox publisher number service) ≡ false → nat_lt (length parted.expired) most ≡ false
      → room_for buffer number publisher parted.expired service ≡ None → is_unborrowed buffer number service publisher ≡ false
      → part buffer number service parted publisher ≡ record parted { staying = parted.staying ++ publisher ∷ [] }
  part_stays busy full none borrowed = rw busy (rw full (rw none (rw borrowed refl)))

  -- what holds of all that are expired holds of them after it
  pub part_known : (P : ℕ → Type 0) → All P parted.expired → P publisher → All P (part buffer number service parted publisher).expired
  part_known P all here =
      by (is_idle (mailbox publisher number service)) (nat_lt (length parted.expired) most)
      (room_for buffer number publisher parted.expired service) (is_unborrowed buffer number service publisher)
    where
      after : Bool → Bool → Option ℕ → Bool → Parted
      after idle room found unborrowed =
          if idle then parted
          else (if room then record parted { expired = parted.expired ++ publisher ∷ [] }
          else elim found [
            | Some out ↦ record parted { expired = filter (λ other. not (other == out)) parted.expired ++ publisher ∷ [] }
            | None ↦ if unborrowed then parted else record parted { staying = parted.staying ++ publisher ∷ [] }
          ])

      by : (idle room : Bool) (found : Option ℕ) (unborrowed : Bool) → All P (after idle room found unborrowed).expired
      by true room found unborrowed = all
      by false true found unborrowed = All-push P parted.expired publisher all here
      by false false (Some out) unborrowed =
          All-push P (filter (λ other. not (other == out)) parted.expired) publisher
          (All-filter (λ other. not (other == out)) P parted.expired all) here
      by false false None true = all
      by false false None false = all
