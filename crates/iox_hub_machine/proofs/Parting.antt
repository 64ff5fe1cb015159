-- What goes by a number among the rest of a table, and the order of the open services of a hub where one of them changes.
use Rattle.std.proofs.Common.{◌≡◌, ◌≢◌, ℕ, Bool, true, false, cond, List, [], ◌∷◌, ◌++◌, None, Some, refl, sym, ap, ◌∙◌, true≢false}
use Rattle.std.proofs.Math.Logic.{⊎_elim}
use Rattle.std.proofs.lemmas.Bool.{eq-eqb, ne_eqb}
use Rattle.std.proofs.lemmas.Bool.Decides.{eqb_tells}
use Rattle.std.specs.BTreeMap.{is_at}
use Rattle.std.specs.Cmp.{unsigned_tied}
use Rattle.std.specs.Map.{keys_of}
use Rattle.std.specs.Ordering.{nat_cmp}
use Rattle.std.specs.Prelude.{Option, ◌==◌}
use Rattle.iox_domain.specs.declared.domain.Domain.{Domain}
use Rattle.iox_domain.specs.declared.ports.service_ports.ServicePorts.{ServicePorts}
use Rattle.iox_domain_machine.proofs.Found.{same_some, never_some, at_head, at_behind}
use Rattle.iox_hub_base.specs.Numbered.{changed_found, not_number, others_unchanged}
use Rattle.iox_hub_base.specs.Open.{here_if, presence_of, domain_of, with_domain}
use Rattle.iox_hub_base.specs.ServicesAsHome.{ports_if}
use Rattle.iox_hub_base.specs.declared.presence.Presence.{Presence}
use Rattle.iox_hub_base.specs.declared.presence.Presence.TheVariants.{Here, Out}
use Rattle.iox_hub_machine.specs.Ports.{ports_here, AreHere}
use Rattle.iox_machine.specs.Table.{at}

-- ---- a table with a number in it

module _ {V : Type 0} where
  -- What goes by a number stands between the rest, and nothing before it goes by the number.
  pub record IsParted (number : ℕ) (v : V) (table : List (ℕ × V)) : Type 0 where
    pub before : List (ℕ × V)
    pub behind : List (ℕ × V)
    pub now : table ≡ before ++ (number, v) ∷ behind
    pub first : at number before ≡ None

  parted_here : (number : ℕ) (v : V) (entry : ℕ × V) (table : List (ℕ × V)) → entry.0 ≡ number → entry.1 ≡ v
      → IsParted number v (entry ∷ table)
  parted_here number v entry table named is = record {
    before = [];
    behind = table;
    now = λ i. (named i, is i) ∷ table;
    first = refl;
  }

  parted_later : (number : ℕ) (v : V) (entry : ℕ × V) (table : List (ℕ × V)) → (entry.0 == number) ≡ false → IsParted number v table
      → IsParted number v (entry ∷ table)
  parted_later number v entry table off rest = record {
    before = entry ∷ rest.before;
    behind = rest.behind;
    now = ap (λ (more : List (ℕ × V)). entry ∷ more) rest.now;
    first = at_behind number entry rest.before off ∙ rest.first;
  }

  pub is_parted : (number : ℕ) (v : V) (table : List (ℕ × V)) → at number table ≡ Some v → IsParted number v table
  is_parted number v [] found = never_some v found
  is_parted number v (entry ∷ table) found = ⊎_elim
      (λ same. parted_here number v entry table same.1 (same_some entry.1 v (sym (at_head number entry table same.0) ∙ found)))
      (λ off. parted_later number v entry table off.0
      (is_parted number v table (sym (at_behind number entry table off.0) ∙ found))) (eqb_tells entry.0 number)

  pub put_found : (number : ℕ) (w : V) (before behind : List (ℕ × V)) → at number before ≡ None
      → at number (before ++ (number, w) ∷ behind) ≡ Some w
  put_found number w [] behind none = at_head number (number, w) behind (eq-eqb number number refl)
  put_found number w (entry ∷ before) behind none = ⊎_elim
      (λ same. never_some entry.1 (sym none ∙ at_head number entry before same.0))
      (λ off. at_behind number entry (before ++ (number, w) ∷ behind) off.0
      ∙ put_found number w before behind (sym (at_behind number entry before off.0) ∙ none)) (eqb_tells entry.0 number)

  -- others are found as without it
  pub found_beside : (number other : ℕ) (w : V) (before behind : List (ℕ × V)) → other ≢ number
      → at other (before ++ (number, w) ∷ behind) ≡ at other (before ++ behind)
  found_beside number other w [] behind off =
      at_behind other (number, w) behind (ne_eqb number other (λ same. off (sym same)))
  found_beside number other w (entry ∷ before) behind off = ⊎_elim
      (λ same. at_head other entry (before ++ (number, w) ∷ behind) same.0 ∙ sym (at_head other entry (before ++ behind) same.0))
      (λ apart. at_behind other entry (before ++ (number, w) ∷ behind) apart.0 ∙ found_beside number other w before behind off
      ∙ sym (at_behind other entry (before ++ behind) apart.0)) (eqb_tells entry.0 other)

  pub keys_stay : (number : ℕ) (v w : V) (before behind : List (ℕ × V))
      → keys_of (before ++ (number, w) ∷ behind) ≡ keys_of (before ++ (number, v) ∷ behind)
  keys_stay number v w [] behind = refl
  keys_stay number v w (entry ∷ before) behind = ap (λ (keys : List ℕ). entry.0 ∷ keys) (keys_stay number v w before behind)

-- ---- the services of a hub

module _ {T U B D : Type 0} where
  abbrev ports_found : Option (Presence T U B D) → Option (ServicePorts T U)
  ports_found found = ports_if (here_if found)

  abbrev found_first : ℕ → Bool → Presence T U B D → List (ℕ × Presence T U B D) → Option (ServicePorts T U)
  found_first number first presence services = ports_found (cond first (Some presence) (presence_of number services))

  -- the ports of a service that is here are those that its domain has
  pub ports_under : (number : ℕ) (services : List (ℕ × Presence T U B D)) → AreHere services
      → at number (ports_here services) ≡ ports_if (domain_of number services)
  ports_under number [] here = refl
  ports_under number ((key, Out agreed) ∷ services) here = absurd (true≢false (sym here.0))
  ports_under number ((key, Here domain) ∷ services) here = ⊎_elim
      (λ same. at_head number (key, domain.state.ports) (ports_here services) same.0
      ∙ sym (ap (λ (first : Bool). found_first number first (Here domain) services)
      (unsigned_tied number key ∙ eq-eqb number key (sym same.1))))
      (λ off. at_behind number (key, domain.state.ports) (ports_here services) off.0 ∙ ports_under number services here.1
      ∙ sym (ap (λ (first : Bool). found_first number first (Here domain) services) (not_number number key (λ same. off.1 (sym same)))))
      (eqb_tells key number)

  here_by : (b : Bool) (number : ℕ) (service : ℕ × Presence T U B D) (services : List (ℕ × Presence T U B D)) (after : Domain T U B D)
      → AreHere (service ∷ services) → AreHere (with_domain number services after)
      → AreHere (cond b ((service.0, Here after) ∷ services) (service ∷ with_domain number services after))
  here_by true number service services after here rest = (refl, here.1)
  here_by false number service services after here rest = (here.0, rest)

  -- each service is here still where one changes
  pub stay_here : (number : ℕ) (services : List (ℕ × Presence T U B D)) (after : Domain T U B D) → AreHere services
      → AreHere (with_domain number services after)
  stay_here number [] after here = here
  stay_here number (service ∷ services) after here =
      here_by (is_at (nat_cmp number) service.0) number service services after here (stay_here number services after here.1)

  -- One service has other ports in the order of all, and so it is in the hub.
  pub record OrderChanges (order : List (ℕ × ServicePorts T U)) (number : ℕ) (ports after : ServicePorts T U)
      (services_then : List (ℕ × Presence T U B D)) : Type 0 where
    pub before : List (ℕ × ServicePorts T U)
    pub behind : List (ℕ × ServicePorts T U)
    pub now : order ≡ before ++ (number, ports) ∷ behind
    pub same : (other : ℕ) → at other (before ++ (number, after) ∷ behind) ≡ at other (ports_here services_then)
    pub keys : keys_of (before ++ (number, after) ∷ behind) ≡ keys_of order

  module _ (order : List (ℕ × ServicePorts T U)) (services : List (ℕ × Presence T U B D)) (here : AreHere services)
      (same : (other : ℕ) → at other order ≡ at other (ports_here services)) (number : ℕ) (domain : Domain T U B D)
      (found : presence_of number services ≡ Some (Here domain)) where
    pub order_has : at number order ≡ Some domain.state.ports
    order_has = same number ∙ ports_under number services here ∙ ap ports_found found

    module _ (after : Domain T U B D) where
      abbrev parts : IsParted number domain.state.ports order
      parts = is_parted number domain.state.ports order order_has

      abbrev order_then : List (ℕ × ServicePorts T U)
      order_then = parts.before ++ (number, after.state.ports) ∷ parts.behind

      abbrev services_then : List (ℕ × Presence T U B D)
      services_then = with_domain number services after

      there : at number order_then ≡ at number (ports_here services_then)
      there =
          put_found number after.state.ports parts.before parts.behind parts.first
          ∙ sym (ports_under number services_then (stay_here number services after here)
          ∙ ap ports_found (changed_found number services (Here domain) (Here after) found))

      elsewhere : (other : ℕ) → other ≢ number → at other order_then ≡ at other (ports_here services_then)
      elsewhere other off =
          found_beside number other after.state.ports parts.before parts.behind off
          ∙ sym (found_beside number other domain.state.ports parts.before parts.behind off)
          ∙ ap (at other) (sym parts.now) ∙ same other ∙ ports_under other services here
          ∙ ap ports_found (sym (others_unchanged number other services (Here after) (λ is. off (sym is))))
          ∙ sym (ports_under other services_then (stay_here number services after here))

      pub order_changes : OrderChanges order number domain.state.ports after.state.ports services_then
      order_changes = record {
        before = parts.before;
        behind = parts.behind;
        now = parts.now;
        same = λ other. ⊎_elim
            (λ is. ap (λ (it : ℕ). at it order_then) is.1 ∙ there ∙ sym (ap (λ (it : ℕ). at it (ports_here services_then)) is.1))
            (λ off. elsewhere other off.1) (eqb_tells other number);
        keys = keys_stay number domain.state.ports after.state.ports parts.before parts.behind ∙ ap keys_of (sym parts.now);
      }
