-- Publishers that forget their messages.
use Rattle.std.proofs.Common.{ℕ, suc, ◌≡◌, ◌+◌, ◌<◌, ◌≤◌, ◌==◌, ◌||◌, Bool, true, false, List, [], ◌∷◌, ◌++◌, map, take, length, get_or}
use Rattle.std.proofs.Common.{Option, None, Some, IsSome, cond, refl, sym, ap, subst, ◌∙◌, arith}
use Rattle.std.proofs.Math.Logic.{⊎_elim}
use Rattle.std.proofs.Math.Seq.{take-suc}
use Rattle.std.proofs.lemmas.Bool.Decides.{eqb_tells}
use Rattle.std.proofs.lemmas.Cmp.{nat_cmp_total, eq_by_cmp_equiv}
use Rattle.std.proofs.lemmas.List.{take_all}
use Rattle.std.proofs.lemmas.List.Folds.{list_any-append}
use Rattle.std.proofs.lemmas.Map.{lookup-set_value}
use Rattle.std.specs.BTreeMap.{is_at}
use Rattle.std.specs.Cmp.{IsEquivalence}
use Rattle.std.specs.FinMap.{nat_cmp-IsAntisymmetric}
use Rattle.std.specs.Ordering.{nat_cmp, eq_by_cmp, is_eq}
use Rattle.std.specs.declared.cmp.Ordering.{Ordering}
use Rattle.std.specs.declared.cmp.Ordering.TheVariants.{Less, Equal, Greater}
use Rattle.iox_domain_ports.specs.MessagesSending.{SenderState, with_uses}
use Rattle.iox_domain_ports.specs.DomainSlots.Uses.{Connection, nobody, emptied}
use Rattle.iox_domain_ports.specs.declared.publisher_port.PublisherPort.{PublisherPort}
use Rattle.iox_domain_ports.specs.Publishers.{port_of, changed, changed_at_port}
use Rattle.iox_lanes_opening.specs.Clearing.{IsCleared}
use Rattle.iox_lanes.specs.Emptied.{without_messages, is_among, emptied_if, AreWithout}

-- lists of connections, as many and each emptied
each_emptied : {X : Type 0} (old new : List (Connection X)) → length new ≡ length old
    → ((index : ℕ) → get_or new index nobody ≡ emptied (get_or old index nobody)) → new ≡ map emptied old
each_emptied [] [] many each = refl
each_emptied [] (c ∷ cs) many each = absurd (omega (arith, many))
each_emptied (c ∷ cs) [] many each = absurd (omega (arith, many))
each_emptied (c ∷ cs) (d ∷ ds) many each =
    let fewer : length ds ≡ length cs = omega (arith, many) in
    ap (λ x. x ∷ ds) (each 0) ∙ ap (λ xs. emptied c ∷ xs) (each_emptied cs ds fewer (λ index. each (suc index)))

-- a publisher whose messages are forgotten
pub is_without : {T U : Type 0} (old : PublisherPort T U) (sender : SenderState T U) → sender ≡ with_uses sender.uses old.sender
    → IsCleared old.sender.uses sender.uses
    → record old { sender = sender } ≡ without_messages old
is_without old sender rest cleared =
    let connections : sender.uses.connections ≡ map emptied old.sender.uses.connections
    = each_emptied old.sender.uses.connections sender.uses.connections cleared.count cleared.each in
    ap (λ s. record old { sender = s })
    (rest ∙ ap (λ uses. with_uses uses old.sender)
    (cleared.same ∙ ap (λ cs. record old.sender.uses { history = []; connections = cs }) connections))

emptied_twice : {X : Type 0} (connections : List (Connection X)) → map emptied (map emptied connections) ≡ map emptied connections
emptied_twice [] = refl
emptied_twice (c ∷ cs) = ap (λ xs. emptied c ∷ xs) (emptied_twice cs)

-- what was forgotten may be forgotten again
without_twice : {T U : Type 0} (port : PublisherPort T U) → without_messages (without_messages port) ≡ without_messages port
without_twice port = ap (λ cs. record port
    { sender = with_uses (record port.sender.uses { history = []; connections = cs }) port.sender })
    (emptied_twice port.sender.uses.connections)

emptied_or : {T U : Type 0} (now before : Bool) (port : Option (PublisherPort T U))
    → emptied_if now (emptied_if before port) ≡ emptied_if (before || (now || false)) port
emptied_or true true None = refl
emptied_or {T} {U} true true (Some port) = ap (λ (p : PublisherPort T U). Some p) (without_twice port)
emptied_or true false port = refl
emptied_or false true port = refl
emptied_or false false port = refl

same_numbers : IsEquivalence (eq_by_cmp nat_cmp)
same_numbers = eq_by_cmp_equiv nat_cmp_total

equal_of : (order : Ordering) → is_eq order ≡ true → order ≡ Equal
equal_of Less is = cc
equal_of Equal is = cc
equal_of Greater is = cc

not_true : (b : Bool) → (b ≡ true → ⊥) → b ≡ false
not_true true isnt = absurd (isnt refl)
not_true false isnt = refl

-- a number passes the test of a number just where both are one
same_test : (number other : ℕ) → is_at (nat_cmp other) number ≡ (number == other)
same_test number other = ⊎_elim
    (λ same. subst (λ n. is_at (nat_cmp n) number ≡ true) same.1 (same_numbers.refl number) ∙ sym same.0)
    (λ apart. not_true (is_at (nat_cmp other) number)
    (λ passes. apart.1 (sym (nat_cmp-IsAntisymmetric other number (equal_of (nat_cmp other number) passes)))) ∙ sym apart.0)
    (eqb_tells number other)

module _ {T U : Type 0} (number at : ℕ) (ports : List (ℕ × PublisherPort T U)) where
  -- there is no publisher of the one, so nothing has changed
  no_one : port_of at ports ≡ None → port_of number ports ≡ emptied_if (number == at) (port_of number ports)
  no_one is = ⊎_elim
      (λ same. let none : port_of number ports ≡ None = ap (λ n. port_of n ports) same.1 ∙ is in
      none ∙ sym (ap (λ b. emptied_if b (port_of number ports)) same.0 ∙ ap (emptied_if true) none))
      (λ apart. sym (ap (λ b. emptied_if b (port_of number ports)) apart.0))
      (eqb_tells number at)

  -- there is one, which has forgotten its messages
  some_one : (port : PublisherPort T U) → port_of at ports ≡ Some port
      → cond (number == at) (Some (without_messages port)) (port_of number ports) ≡ emptied_if (number == at) (port_of number ports)
  some_one port is = ⊎_elim
      (λ same. let found : port_of number ports ≡ Some port = ap (λ n. port_of n ports) same.1 ∙ is in
      ap (λ b. cond b (Some (without_messages port)) (port_of number ports)) same.0 ∙ sym
      (ap (λ b. emptied_if b (port_of number ports)) same.0 ∙ ap (emptied_if true) found))
      (λ apart. ap (λ b. cond b (Some (without_messages port)) (port_of number ports)) apart.0 ∙ sym
      (ap (λ b. emptied_if b (port_of number ports)) apart.0))
      (eqb_tells number at)

  -- what is found under a number after the publisher of one has forgotten its messages
  after_one : (found : Option (PublisherPort T U)) → port_of at ports ≡ found
      → port_of number (changed_at_port at without_messages found ports) ≡ emptied_if (number == at) (port_of number ports)
  after_one None is = no_one is
  after_one (Some port) is =
      lookup-set_value same_numbers (is_at (nat_cmp at)) (same_numbers.congr at) number (without_messages port) ports (is_some_of is)
      ∙ ap (λ b. cond b (Some (without_messages port)) (port_of number ports)) (same_test number at) ∙ some_one port is
    where
      is_some_of : port_of at ports ≡ Some port → IsSome (port_of at ports)
      is_some_of there = subst (λ (f : Option (PublisherPort T U)). IsSome f) (sym there) refl

pub one_more : {T U : Type 0} (numbers : List ℕ) (old now next : List (ℕ × PublisherPort T U)) (at : ℕ) → at < length numbers
    → AreWithout (take at numbers) old now
    → next ≡ changed (get_or numbers at 0) without_messages now → AreWithout (take (at + 1) numbers) old next
one_more numbers old now next at there so_far is number =
    let this : ℕ = get_or numbers at 0 in
    let further : at + 1 ≡ suc at = omega arith in
    let taken : take (at + 1) numbers ≡ take at numbers ++ this ∷ [] = ap (λ n. take n numbers) further ∙ take-suc numbers at 0 there in
    ap (port_of number) is ∙ after_one number this now (port_of this now) refl ∙ ap (emptied_if (number == this)) (so_far number)
    ∙ emptied_or (number == this) (is_among number (take at numbers)) (port_of number old)
    ∙ ap (λ b. emptied_if b (port_of number old))
    (sym (list_any-append (λ other. number == other) (take at numbers) (this ∷ [])) ∙ ap (is_among number) (sym taken))

pub of_all : {T U : Type 0} (numbers : List ℕ) (old now : List (ℕ × PublisherPort T U)) (at : ℕ) → length numbers ≤ at
    → AreWithout (take at numbers) old now → AreWithout numbers old now
of_all numbers old now at past so_far = subst (λ ns. AreWithout ns old now) (take_all at numbers past) so_far
