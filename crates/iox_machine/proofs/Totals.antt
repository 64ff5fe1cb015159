-- What services weigh together, and how that changes with one of them.
use Rattle.std.proofs.Common.{◌≡◌, ◌≤◌, ◌+◌, ℕ, Bool, true, false, cond, List, [], ◌∷◌, ◌++◌, Some, sym, ap, subst, arith}
use Rattle.std.specs.List.{list_any}
use Rattle.std.specs.Prelude.{filter, find, bytes_eq}
use Rattle.iox_machine.specs.Factories.{with_open}
use Rattle.iox_machine.specs.Phase.{Phase, Absent, BeingMade, Published, Emptied}
use Rattle.iox_machine.specs.Service.{Service, new_service}
use Rattle.iox_machine.specs.State.{replaced}
use Rattle.iox_machine.proofs.Cases.{same-some, never-some}
use Rattle.iox_command.specs.NegotiateBase.DescribeSettings.declared.static_config.Settings.{Settings}
use Rattle.iox_command.specs.NegotiateBase.DescribeSettings.declared.static_config.Settings.TheVariants as settings
use Rattle.iox_command.specs.NegotiateBase.DescribeSettings.declared.static_config.publish_subscribe.StaticConfig.{StaticConfig}

module _ {T : Type 0} (weight : Service T → ℕ) where
  -- what services weigh together
  abbrev pub total : List (Service T) → ℕ
  total [] = 0
  total (service ∷ more) = weight service + total more

  pub total-replaced : (c e : ℕ) (has : Service T → Bool) (service after : Service T) (services : List (Service T))
      → find has services ≡ Some service → weight after + c ≤ weight service + e
      → total (replaced has after services) + c ≤ total services + e
  total-replaced c e has service after [] first less = never-some service first
  total-replaced c e has service after (other ∷ more) first less =
      here (has other) first (λ found. total-replaced c e has service after more found less)
    where
      first-less : (a b r c e : ℕ) → a + c ≤ b + e → (a + r) + c ≤ (b + r) + e
      first-less a b r c e h = omega (arith, h)

      rest-less : (a r s c e : ℕ) → r + c ≤ s + e → (a + r) + c ≤ (a + s) + e
      rest-less a r s c e h = omega (arith, h)

      here : (b : Bool) → cond b (Some other) (find has more) ≡ Some service
          → (find has more ≡ Some service → total (replaced has after more) + c ≤ total more + e)
          → total (cond b (after ∷ more) (other ∷ replaced has after more)) + c ≤ total (other ∷ more) + e
      here true found on =
          first-less (weight after) (weight other) (total more) c e
          (subst (λ (it : Service T). weight after + c ≤ weight it + e) (sym (same-some other service found)) less)
      here false found on = rest-less (weight other) (total (replaced has after more)) (total more) c e (on found)

  -- one of them weighs no more than all
  pub total-part : (has : Service T → Bool) (service : Service T) (services : List (Service T)) → find has services ≡ Some service
      → weight service ≤ total services
  total-part has service [] first = never-some service first
  total-part has service (other ∷ more) first = here (has other) first (total-part has service more)
    where
      first-one : (a b r : ℕ) → b ≡ a → a ≤ b + r
      first-one a b r is = omega (arith, is)

      later : (a b r : ℕ) → a ≤ r → a ≤ b + r
      later a b r h = omega (arith, h)

      here : (b : Bool) → cond b (Some other) (find has more) ≡ Some service
          → (find has more ≡ Some service → weight service ≤ total more) → weight service ≤ weight other + total more
      here true found on =
          first-one (weight service) (weight other) (total more) (ap weight (same-some other service found))
      here false found on = later (weight service) (weight other) (total more) (on found)

  pub total-filtered : (test : Service T → Bool) (services : List (Service T)) → total (filter test services) ≤ total services
  total-filtered test [] = omega arith
  total-filtered test (one ∷ more) = here (test one) (total-filtered test more)
    where
      keeps : (a r s : ℕ) → r ≤ s → a + r ≤ a + s
      keeps a r s h = omega (arith, h)

      drops : (a r s : ℕ) → r ≤ s → r ≤ a + s
      drops a r s h = omega (arith, h)

      here : (b : Bool) → total (filter test more) ≤ total more
          → total (cond b (one ∷ filter test more) (filter test more)) ≤ weight one + total more
      here true on = keeps (weight one) (total (filter test more)) (total more) on
      here false on = drops (weight one) (total (filter test more)) (total more) on

  total-more : (one : Service T) (services : List (Service T)) → weight one ≡ 0 → total (services ++ one ∷ []) ≤ total services
  total-more one [] none = nothing (weight one) none
    where
      nothing : (a : ℕ) → a ≡ 0 → a + 0 ≤ 0
      nothing a is = omega (arith, is)
  total-more one (other ∷ more) none =
      joins (weight other) (total (more ++ one ∷ [])) (total more) (total-more one more none)
    where
      joins : (a r s : ℕ) → r ≤ s → a + r ≤ a + s
      joins a r s h = omega (arith, h)

  pub total-open : (name : List ℕ) (phase : Phase) (services : List (Service T)) → ((c : StaticConfig) → weight (new_service name c) ≡ 0)
      → total (with_open name phase services) ≤ total services
  total-open name (Absent lives) services none = omega arith
  total-open name (BeingMade life by) services none = omega arith
  total-open name (Emptied life agreed by) services none = omega arith
  total-open name (Published life agreed nodes) services none = here agreed.settings
    where
      made : (c : StaticConfig) (b : Bool) → total (cond b services (services ++ new_service name c ∷ [])) ≤ total services
      made c true = omega arith
      made c false = total-more (new_service name c) services (none c)

      here : (s : Settings) → total (elim s [
        | settings.PublishSubscribe c ↦ cond (list_any (λ (service : Service T). bytes_eq service.name name) services) services
            (services ++ new_service name c ∷ [])
        | settings.Event c ↦ services
        | settings.RequestResponse c ↦ services
      ]) ≤ total services
      here (settings.PublishSubscribe c) = made c (list_any (λ (service : Service T). bytes_eq service.name name) services)
      here (settings.Event c) = omega arith
      here (settings.RequestResponse c) = omega arith
