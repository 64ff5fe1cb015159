-- Publishers by number, of which one was changed.
use Rattle.std.proofs.Common.{ℕ, ◌≡◌, Bool, true, false, List, Option, Some, IsSome, cond, refl, sym, ap, subst, ◌∙◌}
use Rattle.std.proofs.lemmas.Cmp.{nat_cmp_total, eq_by_cmp_equiv}
use Rattle.std.proofs.lemmas.Map.{lookup-set_value}
use Rattle.std.specs.BTreeMap.{is_at}
use Rattle.std.specs.Cmp.{IsEquivalence}
use Rattle.std.specs.FinMap.{nat_cmp-IsAntisymmetric}
use Rattle.std.specs.Ordering.{nat_cmp, eq_by_cmp, is_eq}
use Rattle.std.specs.declared.cmp.Ordering.{Ordering}
use Rattle.std.specs.declared.cmp.Ordering.TheVariants.{Less, Equal, Greater}
use Rattle.iox_domain.specs.DomainPorts.Publishers.{port_of, with_port}
use Rattle.iox_domain.specs.DomainPorts.declared.publisher_port.PublisherPort.{PublisherPort}

same_numbers : IsEquivalence (eq_by_cmp nat_cmp)
same_numbers = eq_by_cmp_equiv nat_cmp_total

equal_of : (order : Ordering) → is_eq order ≡ true → order ≡ Equal
equal_of Less is = cc
equal_of Equal is = cc
equal_of Greater is = cc

not_true : (b : Bool) → (b ≡ true → ⊥) → b ≡ false
not_true true isnt = absurd (isnt refl)
not_true false isnt = refl

-- an entry that a number is looked up by has this number
pub same_key : (number other : ℕ) → is_at (nat_cmp number) other ≡ true → other ≡ number
same_key number other passes = sym (nat_cmp-IsAntisymmetric number other (equal_of (nat_cmp number other) passes))

module _ {T U : Type 0} (number : ℕ) (ports : List (ℕ × PublisherPort T U)) (port after : PublisherPort T U)
    (there : port_of number ports ≡ Some port) where
  some : IsSome (port_of number ports)
  some = subst (λ (f : Option (PublisherPort T U)). IsSome f) (sym there) refl

  after_put : (other : ℕ) → port_of other (with_port number ports after)
      ≡ cond (is_at (nat_cmp number) other) (Some after) (port_of other ports)
  after_put other = lookup-set_value same_numbers (is_at (nat_cmp number)) (same_numbers.congr number) other after ports some

  -- the changed one is found under its number
  pub put_there : port_of number (with_port number ports after) ≡ Some after
  put_there = after_put number ∙ ap (λ b. cond b (Some after) (port_of number ports)) (same_numbers.refl number)

  -- and each other as before
  pub put_elsewhere : (other : ℕ) → (other ≡ number → ⊥) → port_of other (with_port number ports after) ≡ port_of other ports
  put_elsewhere other apart = after_put other ∙ ap (λ b. cond b (Some after) (port_of other ports))
      (not_true (is_at (nat_cmp number) other) (λ passes. apart (same_key number other passes)))
