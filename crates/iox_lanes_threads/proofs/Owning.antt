-- Ports that a board knows step on its words, as those do that were opened on it.
use Rattle.std.proofs.Common.{ℕ, ◌≡◌, ◌+◌, ◌==◌, ◌&&◌, Bool, true, false, List, [], ◌∷◌, inl, inr, refl, sym, ◌∙◌}
use Rattle.std.specs.List.{All, list_all}
use Rattle.std.proofs.lemmas.Bool.Decides.{eqb_tells}
use Rattle.std.proofs.lemmas.List.Elements.{All-nil, All-cons, All-head, All-tail}
use Rattle.atomic_table.specs.Seated.{TableId}
use Rattle.iox_lanes_machine.specs.LanesParties.Parties.{PublisherLaneState, SubscriberLaneState}
use Rattle.iox_lanes_machine.specs.World.{World}
use Rattle.iox_lanes_threads.specs.Ports.{BoardPublisher, BoardSubscriber, opened_publishers, opened_subscribers}
use Rattle.iox_lanes_threads.proofs.Seating.{opened_publisher, opened_subscriber}

both : (a b : Bool) → (a && b) ≡ true → (a ≡ true) × (b ≡ true)
both true b e = (refl, e)
both false b e = absurd (cc e)

module _ {X : Type 0} (number : ℕ) (table : TableId) (number_of : X → ℕ) (table_of : X → TableId) where
  pub all_own : (xs : List X) → All (λ x. number_of x ≡ number → table_of x ≡ table) xs
      → list_all (λ x. number_of x == number) xs ≡ true → All (λ x. table_of x ≡ table) xs
  all_own [] own known = All-nil (λ x. table_of x ≡ table)
  all_own (x ∷ xs) own known =
      let k = both (number_of x == number) (list_all (λ y. number_of y == number) xs) known in
      All-cons (λ y. table_of y ≡ table) x xs
      (All-head (λ y. number_of y ≡ number → table_of y ≡ table) x xs own (is_known x k.0))
      (all_own xs (All-tail (λ y. number_of y ≡ number → table_of y ≡ table) x xs own) k.1)
    where
      is_known : (y : X) → (number_of y == number) ≡ true → number_of y ≡ number
      is_known y e = elim (eqb_tells (number_of y) number) [
        | inl same ↦ same.1
        | inr other ↦ absurd (cc (sym other.0 ∙ e))
      ]

module _ (number board : ℕ) (table : TableId) (m : World) where
  pub publishers_own : (place : ℕ) (lanes : List PublisherLaneState)
      → All (λ (p : BoardPublisher). p.board ≡ number → p.own.table ≡ table) (opened_publishers board table m place lanes)
  publishers_own place [] = All-nil (λ (p : BoardPublisher). p.board ≡ number → p.own.table ≡ table)
  publishers_own place (lane ∷ lanes) =
      All-cons (λ (p : BoardPublisher). p.board ≡ number → p.own.table ≡ table) (opened_publisher board table m place lane)
      (opened_publishers board table m (place + 1) lanes) (λ e. refl) (publishers_own (place + 1) lanes)

  pub subscribers_own : (place : ℕ) (lanes : List SubscriberLaneState)
      → All (λ (s : BoardSubscriber). s.board ≡ number → s.own.table ≡ table) (opened_subscribers board table m place lanes)
  subscribers_own place [] = All-nil (λ (s : BoardSubscriber). s.board ≡ number → s.own.table ≡ table)
  subscribers_own place (lane ∷ lanes) =
      All-cons (λ (s : BoardSubscriber). s.board ≡ number → s.own.table ≡ table) (opened_subscriber board table m place lane)
      (opened_subscribers board table m (place + 1) lanes) (λ e. refl) (subscribers_own (place + 1) lanes)
