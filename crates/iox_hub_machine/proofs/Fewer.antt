-- A factory goes from a hub: what is counted of it, and its node's seat in the service.
use Rattle.std.proofs.Common.{◌≡◌, ◌≤◌, ◌<◌, ◌+◌, ◌-◌, ℕ, zero, suc, Bool, true, false, cond, List, [], ◌∷◌, length, Option}
use Rattle.std.proofs.Common.{None, Some, refl, sym, ap, subst, ◌∙◌, arith, true≢false}
use Rattle.std.proofs.Math.Logic.{⊎_elim}
use Rattle.std.proofs.lemmas.Bool.{eq-eqb, leb-true}
use Rattle.std.proofs.lemmas.Bool.Decides.{eqb_tells}
use Rattle.std.specs.BTreeMap.{insert_entry, is_at}
use Rattle.std.specs.Cmp.{unsigned_tied}
use Rattle.std.specs.Map.{keys_of, lookup, remove_entry}
use Rattle.std.specs.Ordering.{nat_cmp, is_eq, match_ordering}
use Rattle.std.specs.Prelude.{◌==◌, filter, nat_eq, nat_le}
use Rattle.std.specs.declared.cmp.Ordering.{Ordering}
use Rattle.std.specs.declared.cmp.Ordering.TheVariants.{Less, Equal, Greater}
use Rattle.iox_command.specs.NegotiateBase.DescribeBase.declared.pattern.MessagingPattern.{MessagingPattern}
use Rattle.iox_command.specs.NegotiateBase.declared.request.Opened.{Opened}
use Rattle.iox_domain.specs.Tries.{how_often}
use Rattle.iox_domain_machine.proofs.Found.{same_some, never_some, at_head, at_behind}
use Rattle.iox_domain_machine.proofs.Removing.{gone_on, gone_off}
use Rattle.iox_hub_base.specs.Numbered.{is_number, not_number}
use Rattle.iox_hub_commands.specs.AgreementLaws.{service_of}
use Rattle.iox_hub_commands.specs.declared.services.made.MadeFactory.{MadeFactory}
use Rattle.iox_hub_machine.proofs.Absent.{AreThere}
use Rattle.iox_hub_machine.proofs.InUse.{numbers_of}
use Rattle.iox_hub_machine.proofs.Lessened.{none_removed}
use Rattle.iox_hub_machine.proofs.Used.{one_if}
use Rattle.iox_hub_machine.specs.Seats.{seats_in, seats_for}
use Rattle.iox_machine.specs.Agreement.{Agreement}
use Rattle.iox_machine.specs.Phase.{Node, Own, Phase, Absent, Published, Emptied, is_in, left, removed_by, same_node}
use Rattle.iox_machine.proofs.Shorthands.{closed_by}
use Rattle.iox_machine.specs.Table.{at, removed}
use Rattle.iox_negotiate_machine.proofs.Seats.{node-is, node-itself, passed, aside, behind, in-counted, is_some_of}
use Rattle.iox_negotiate_machine.specs.CallLaws.{IsServiceIn}
use Rattle.iox_negotiate_machine.specs.Standing.{counts_of}

-- ---- tables by rising number

module _ {V : Type 0} (number : ℕ) where
  abbrev taken_out : List (ℕ × V) → List (ℕ × V)
  taken_out entries = remove_entry (is_at (nat_cmp number)) entries

  -- what goes by others is as it was where one goes
  pub gone_others : (other : ℕ) (entries : List (ℕ × V)) → (number ≡ other → ⊥)
      → lookup (is_at (nat_cmp other)) (taken_out entries) ≡ lookup (is_at (nat_cmp other)) entries
  gone_others other [] off = refl
  gone_others other (entry ∷ entries) off = out_by (is_at (nat_cmp number) entry.0) refl (gone_others other entries off)
    where
      out_by : (b : Bool) → is_at (nat_cmp number) entry.0 ≡ b
          → lookup (is_at (nat_cmp other)) (taken_out entries) ≡ lookup (is_at (nat_cmp other)) entries
          → lookup (is_at (nat_cmp other)) (cond b entries (entry ∷ taken_out entries))
          ≡ cond (is_at (nat_cmp other) entry.0) (Some entry.1) (lookup (is_at (nat_cmp other)) entries)
      out_by true is rest =
          ap (λ (b : Bool). cond b (Some entry.1) (lookup (is_at (nat_cmp other)) entries))
          (sym (not_number other entry.0 (λ same. off (is_number number entry.0 is ∙ sym same))))
      out_by false is rest = ap (λ (found : Option V). cond (is_at (nat_cmp other) entry.0) (Some entry.1) found) rest

  none_there : (entries : List (ℕ × V)) → how_often number (keys_of entries) ≡ 0 → lookup (is_at (nat_cmp number)) entries ≡ None
  none_there [] none = refl
  none_there (entry ∷ entries) none = ⊎_elim
      (λ same. absurd (omega (arith, none, ap one_if same.0)))
      (λ off. ap (λ (b : Bool). cond b (Some entry.1) (lookup (is_at (nat_cmp number)) entries)) (not_number number entry.0 off.1)
      ∙ none_there entries (omega (arith, none, ap one_if off.0))) (eqb_tells number entry.0)

  -- nothing goes by its number then, where each comes once
  pub gone_itself : (entries : List (ℕ × V)) → how_often number (keys_of entries) ≤ 1
      → lookup (is_at (nat_cmp number)) (taken_out entries) ≡ None
  gone_itself [] once = refl
  gone_itself (entry ∷ entries) once = out_by (is_at (nat_cmp number) entry.0) refl (λ fewer. gone_itself entries fewer)
    where
      out_by : (b : Bool) → is_at (nat_cmp number) entry.0 ≡ b
          → (how_often number (keys_of entries) ≤ 1 → lookup (is_at (nat_cmp number)) (taken_out entries) ≡ None)
          → lookup (is_at (nat_cmp number)) (cond b entries (entry ∷ taken_out entries)) ≡ None
      out_by true is rest =
          none_there entries (omega (arith, once, ap one_if (eq-eqb number entry.0 (is_number number entry.0 is))))
      out_by false is rest =
          ap (λ (b : Bool). cond b (Some entry.1) (lookup (is_at (nat_cmp number)) (taken_out entries))) is ∙ rest (omega (arith, once))

  put_by : (order : Ordering) (key : ℕ) (x w : V) (rest inserted : List (ℕ × V)) → nat_cmp number key ≡ order
      → lookup (is_at (nat_cmp number)) inserted ≡ Some w
      → lookup (is_at (nat_cmp number)) (match_ordering order ((number, w) ∷ (key, x) ∷ rest) ((key, w) ∷ rest) ((key, x) ∷ inserted))
      ≡ Some w
  put_by Less key x w rest inserted is later =
      ap (λ (b : Bool). cond b (Some w) (lookup (is_at (nat_cmp number)) ((key, x) ∷ rest)))
      (unsigned_tied number number ∙ eq-eqb number number refl)
  put_by Equal key x w rest inserted is later =
      ap (λ (b : Bool). cond b (Some w) (lookup (is_at (nat_cmp number)) rest)) (ap is_eq is)
  put_by Greater key x w rest inserted is later =
      ap (λ (b : Bool). cond b (Some x) (lookup (is_at (nat_cmp number)) inserted)) (ap is_eq is) ∙ later

  -- what is put by a number is found
  pub put_there : (entries : List (ℕ × V)) (w : V) → lookup (is_at (nat_cmp number)) (insert_entry nat_cmp entries number w) ≡ Some w
  put_there [] w = ap (λ (b : Bool). cond b (Some w) None) (unsigned_tied number number ∙ eq-eqb number number refl)
  put_there (entry ∷ entries) w =
      put_by (nat_cmp number entry.0) entry.0 entry.1 w entries (insert_entry nat_cmp entries number w) refl (put_there entries w)

-- ---- the numbers of services

-- where a factory goes its service has one less
pub often_less : (service number : ℕ) (made : MadeFactory) (entries : List (ℕ × MadeFactory)) → lookup (nat_eq number) entries ≡ Some made
    → how_often service (numbers_of (remove_entry (nat_eq number) entries)) + one_if (service == service_of made)
    ≡ how_often service (numbers_of entries)
often_less service number made [] found = never_some made found
often_less service number made (entry ∷ entries) found =
    less_by (nat_eq number entry.0) found (λ later. often_less service number made entries later)
  where
    less_by : (b : Bool) → cond b (Some entry.1) (lookup (nat_eq number) entries) ≡ Some made
        → (lookup (nat_eq number) entries ≡ Some made
        → how_often service (numbers_of (remove_entry (nat_eq number) entries)) + one_if (service == service_of made)
        ≡ how_often service (numbers_of entries))
        → how_often service (numbers_of (cond b entries (entry ∷ remove_entry (nat_eq number) entries)))
        + one_if (service == service_of made)
        ≡ how_often service (numbers_of (entry ∷ entries))
    less_by true is rest =
        omega (arith, ap (λ (one : MadeFactory). one_if (service == service_of one)) (same_some entry.1 made is))
    less_by false is rest = omega (arith, rest is)

-- a service that is counted has a factory
pub some_of : (service : ℕ) (whole entries : List (ℕ × MadeFactory)) → AreThere whole entries
    → 0 < how_often service (numbers_of entries)
    → (number : ℕ) × (made : MadeFactory) × (at number whole ≡ Some made) × (service_of made ≡ service)
some_of service whole [] there some = absurd (omega (arith, some))
some_of service whole (entry ∷ entries) there some = ⊎_elim
    (λ same. (entry.0, entry.1, there.0, sym same.1))
    (λ off. some_of service whole entries there.1 (omega (arith, some, ap one_if off.0))) (eqb_tells service (service_of entry.1))

-- ---- the factories that pass a test

module _ {V : Type 0} (test : V → Bool) where
  abbrev passing : List (ℕ × V) → List (ℕ × V)
  passing table = filter (λ (entry : ℕ × V). test entry.1) table

  passing_by : (b : Bool) (entry : ℕ × V) (table : List (ℕ × V)) → test entry.1 ≡ b
      → length (passing (entry ∷ table)) ≡ one_if b + length (passing table)
  passing_by true entry table is = omega (arith, ap (λ (b : Bool). length (cond b (entry ∷ passing table) (passing table))) is)
  passing_by false entry table is = omega (arith, ap (λ (b : Bool). length (cond b (entry ∷ passing table) (passing table))) is)

  passes : (entry : ℕ × V) (table : List (ℕ × V)) → length (passing (entry ∷ table)) ≡ one_if (test entry.1) + length (passing table)
  passes entry table = passing_by (test entry.1) entry table refl

  pub one_fewer : (number : ℕ) (v : V) (table : List (ℕ × V)) → how_often number (keys_of table) ≤ 1 → at number table ≡ Some v
      → length (passing (removed number table)) + one_if (test v) ≡ length (passing table)
  one_fewer number v [] once found = never_some v found
  one_fewer number v (entry ∷ table) once found = ⊎_elim
      (λ same.
      let none : how_often number (keys_of table) ≡ 0 = omega (arith, once, ap one_if (eq-eqb number entry.0 (sym same.1))) in
      omega (
        arith,
        passes entry table,
        ap (λ (rest : List (ℕ × V)). length (passing rest)) (gone_on number entry table same.0 ∙ none_removed number table none),
        ap (λ (one : V). one_if (test one)) (same_some entry.1 v (sym (at_head number entry table same.0) ∙ found)),
      ))
      (λ off. omega (
        arith,
        passes entry table,
        passes entry (removed number table),
        ap (λ (rest : List (ℕ × V)). length (passing rest)) (gone_off number entry table off.0),
        one_fewer number v table (omega (arith, once)) (sym (at_behind number entry table off.0) ∙ found),
      ))
      (eqb_tells entry.0 number)

  pub one_passing : (number : ℕ) (v : V) (table : List (ℕ × V)) → at number table ≡ Some v → test v ≡ true → 0 < length (passing table)
  one_passing number v [] found is = never_some v found
  one_passing number v (entry ∷ table) found is = ⊎_elim
      (λ same. omega (
        arith,
        passes entry table,
        ap one_if (ap test (same_some entry.1 v (sym (at_head number entry table same.0) ∙ found)) ∙ is),
      ))
      (λ off. omega (
        arith,
        passes entry table,
        one_passing number v table (sym (at_behind number entry table off.0) ∙ found) is,
      )) (eqb_tells entry.0 number)

-- ---- seats

one_out : (b : Bool) (count : ℕ) → nat_le count 1 ≡ b → cond b [] ((count - 1) ∷ []) ≡ seats_for (count - 1)
one_out true zero is = refl
one_out true (suc zero) is = refl
one_out true (suc (suc count)) is =
    let few : suc (suc count) ≤ 1 = leb-true (suc (suc count)) 1 is in absurd (omega (arith, few))
one_out false zero is = absurd (true≢false is)
one_out false (suc zero) is = absurd (true≢false is)
one_out false (suc (suc count)) is =
    let less : suc (suc count) - 1 ≡ suc count = omega arith in
    ap (λ (n : ℕ). n ∷ []) less ∙ sym (ap seats_for less)

-- a node that leaves has one seat less
pub left_itself : (node : Node) (count : ℕ) (nodes : List (Node × ℕ)) → counts_of node nodes ≡ count ∷ []
    → counts_of node (left node nodes) ≡ seats_for (count - 1)
left_itself node count [] is = absurd (differ is)
  where
    differ : [] ≡ count ∷ [] → ⊥
    differ e = cc
left_itself node count (entry ∷ nodes) is = left_by_test (same_node entry.0 node) refl (left_itself node count nodes)
  where
    head_is : entry.1 ∷ counts_of node nodes ≡ count ∷ [] → entry.1 ≡ count
    head_is e = ap (λ (list : List ℕ). first_or list) e
      where
        first_or : List ℕ → ℕ
        first_or [] = 0
        first_or (x ∷ xs) = x

    rest_is : entry.1 ∷ counts_of node nodes ≡ count ∷ [] → counts_of node nodes ≡ []
    rest_is e = ap (λ (list : List ℕ). rest_of list) e
      where
        rest_of : List ℕ → List ℕ
        rest_of [] = []
        rest_of (x ∷ xs) = xs

    out_by : (b : Bool) → nat_le entry.1 1 ≡ b → entry.1 ≡ count → counts_of node nodes ≡ []
        → counts_of node (cond b nodes ((node, entry.1 - 1) ∷ nodes)) ≡ cond b [] ((entry.1 - 1) ∷ [])
    out_by true few same none = none
    out_by false many same none =
        passed node (node, entry.1 - 1) nodes (node-itself node) ∙ ap (λ (more : List ℕ). (entry.1 - 1) ∷ more) none

    left_by_test : (b : Bool) → same_node entry.0 node ≡ b
        → (counts_of node nodes ≡ count ∷ [] → counts_of node (left node nodes) ≡ seats_for (count - 1))
        → counts_of node (cond b (cond (nat_le entry.1 1) nodes ((node, entry.1 - 1) ∷ nodes)) (entry ∷ left node nodes))
        ≡ seats_for (count - 1)
    left_by_test true on later =
        let all : entry.1 ∷ counts_of node nodes ≡ count ∷ [] = sym (passed node entry nodes on) ∙ is in
        out_by (nat_le entry.1 1) refl (head_is all) (rest_is all) ∙ one_out (nat_le entry.1 1) entry.1 refl
        ∙ ap (λ (n : ℕ). seats_for (n - 1)) (head_is all)
    left_by_test false off later = aside node entry (left node nodes) off ∙ later (sym (aside node entry nodes off) ∙ is)

-- all others have theirs
pub left_others : (node other : Node) (nodes : List (Node × ℕ)) → (node ≡ other → ⊥)
    → counts_of other (left node nodes) ≡ counts_of other nodes
left_others node other [] apart = refl
left_others node other (entry ∷ nodes) apart = left_by_test (same_node entry.0 node) refl (left_others node other nodes apart)
  where
    not_other : (one : Node) → one ≡ node → same_node one other ≡ false
    not_other one same = test (same_node one other) refl
      where
        test : (b : Bool) → same_node one other ≡ b → b ≡ false
        test true is = absurd (apart (sym same ∙ node-is one other is))
        test false is = refl

    out_by : (b : Bool) → counts_of other (cond b nodes ((node, entry.1 - 1) ∷ nodes)) ≡ counts_of other nodes
    out_by true = refl
    out_by false = aside other (node, entry.1 - 1) nodes (not_other node refl)

    left_by_test : (b : Bool) → same_node entry.0 node ≡ b → counts_of other (left node nodes) ≡ counts_of other nodes
        → counts_of other (cond b (cond (nat_le entry.1 1) nodes ((node, entry.1 - 1) ∷ nodes)) (entry ∷ left node nodes))
        ≡ counts_of other (entry ∷ nodes)
    left_by_test true on later =
        out_by (nat_le entry.1 1) ∙ sym (aside other entry nodes (not_other entry.0 (node-is entry.0 node on)))
    left_by_test false off later = behind other entry (left node nodes) nodes later

module _ (node life : ℕ) (agreed : Agreement) (nodes : List (Node × ℕ)) (seated : is_in (Own node) nodes ≡ true) where
  abbrev ended_with : List (Node × ℕ) → Phase
  ended_with rest = removed_by (Own node) (elim rest [
    | [] ↦ Emptied life agreed (Own node)
    | entry ∷ more ↦ Published life agreed (entry ∷ more)
  ])

  is_ended : closed_by node (Published life agreed nodes) ≡ ended_with (left (Own node) nodes)
  is_ended = ap (λ (b : Bool). removed_by (Own node) (cond b (elim (left (Own node) nodes) [
    | [] ↦ Emptied life agreed (Own node)
    | entry ∷ more ↦ Published life agreed (entry ∷ more)
  ]) (Published life agreed nodes))) seated

  no_seat : (b : Bool) (other : ℕ) → seats_in other (cond b (Absent life) (Emptied life agreed (Own node))) ≡ []
  no_seat true other = refl
  no_seat false other = refl

  seats_by : (other : ℕ) (rest : List (Node × ℕ)) → seats_in other (ended_with rest) ≡ counts_of (Own other) rest
  seats_by other [] = no_seat (same_node (Own node) (Own node)) other
  seats_by other (entry ∷ more) = refl

  -- who has seats where a factory went
  pub closed_seats : (other : ℕ) → seats_in other (closed_by node (Published life agreed nodes))
      ≡ counts_of (Own other) (left (Own node) nodes)
  closed_seats other = ap (seats_in other) is_ended ∙ seats_by other (left (Own node) nodes)

  serves_by : (other : ℕ) (pattern : MessagingPattern) (name taken : List ℕ) (opened : Opened) (rest : List (Node × ℕ))
      → (counts_of (Own other) rest ≡ [] → ⊥) → IsServiceIn other pattern name (Published life agreed nodes) taken opened
      → IsServiceIn other pattern name (ended_with rest) taken opened
  serves_by other pattern name taken opened [] some is = absurd (some refl)
  serves_by other pattern name taken opened (entry ∷ more) some is = (
    in-counted (Own other) (entry ∷ more) ∙ some_seat (counts_of (Own other) (entry ∷ more)) some,
    is.1,
    is.2,
  )
    where
      some_seat : (counts : List ℕ) → (counts ≡ [] → ⊥) → is_some_of counts ≡ true
      some_seat [] none = absurd (none refl)
      some_seat (x ∷ xs) none = refl

  -- who has a seat then is in the service still
  pub closed_serves : (other : ℕ) (pattern : MessagingPattern) (name taken : List ℕ) (opened : Opened)
      → (counts_of (Own other) (left (Own node) nodes) ≡ [] → ⊥)
      → IsServiceIn other pattern name (Published life agreed nodes) taken opened
      → IsServiceIn other pattern name (closed_by node (Published life agreed nodes)) taken opened
  closed_serves other pattern name taken opened some is =
      subst (λ (phase : Phase). IsServiceIn other pattern name phase taken opened) (sym is_ended)
      (serves_by other pattern name taken opened (left (Own node) nodes) some is)
