-- Which node is in a segment, and which call is in a phase.
use Rattle.std.proofs.Common.{◌≡◌, ℕ, ◌+◌, ◌-◌, ◌≤◌, Bool, true, false, cond, ◌||◌, List, [], ◌∷◌, ◌++◌, length, map, refl, sym, ap}
use Rattle.std.proofs.Common.{subst, ◌∙◌, arith}
use Rattle.std.proofs.lemmas.Bool.{eqb-true, eq-eqb}
use Rattle.std.specs.List.{filter, list_any}
use Rattle.std.specs.Prelude.{◌==◌, nat_le}
use Rattle.std.specs.declared.cmp.Ordering.{Ordering}
use Rattle.std.specs.declared.cmp.Ordering.TheVariants.{Less, Equal, Greater}
use Rattle.std.specs.Ordering.{nat_cmp, match_ordering, is_eq}
use Rattle.std.specs.Cmp.{nat_cmp_total}
use Rattle.std.specs.BTreeMap.{is_at}
use Rattle.std.specs.BTreeSet.{insert_key}
use Rattle.std.specs.Set.{remove_key}
use Rattle.std.proofs.lemmas.Map.Lookups.{exact_unsigned}
use Rattle.iox_machine.specs.Phase.{Node, Own, Foreign, same_node, is_in, entered, left}
use Rattle.iox_negotiate.proofs.Changes.{equal-of}
use Rattle.iox_negotiate.proofs.Maps.{by_test, on, no}
use Rattle.iox_negotiate_machine.specs.Standing.{NodesStand, seats_of, counts_of}
use Rattle.iox_negotiate_table.proofs.Entries.{is-self}
use Rattle.iox_negotiate_table.specs.Nodes.{Nodes, count_in, first_foreign, has_foreign, with_foreign, without_foreign}

abbrev pub Entry : Type 0
Entry = Node × ℕ

-- ---- tests of nodes

pub node-is : (one other : Node) → same_node one other ≡ true → one ≡ other
node-is (Own one) (Own other) e = ap Own (eqb-true one other e)
node-is (Foreign one) (Foreign other) e = ap Foreign (eqb-true one other e)
node-is (Own one) (Foreign other) e = no e
node-is (Foreign one) (Own other) e = no e

pub node-itself : (one : Node) → same_node one one ≡ true
node-itself (Own one) = eq-eqb one one refl
node-itself (Foreign one) = eq-eqb one one refl

-- two tests are one if each passes where the other does
pub same-bool : (one other : Bool) → (one ≡ true → other ≡ true) → (other ≡ true → one ≡ true) → one ≡ other
same-bool true other there back = sym (there refl)
same-bool false true there back = back refl
same-bool false false there back = refl

-- the test of a number in a set is that of the machine
pub tested : (node number : ℕ) → is_at (nat_cmp node) number ≡ (number == node)
tested node number = same-bool (is_at (nat_cmp node) number) (number == node)
    (λ at. eq-eqb number node (sym (exact_unsigned node number (equal-of (nat_cmp node number) at))))
    (λ same. subst (λ n. is_at (nat_cmp node) n ≡ true) (sym (eqb-true number node same)) (rw (is-self nat_cmp nat_cmp_total node) refl))

-- ---- counts

abbrev pub outside : ℕ → Entry
outside number = (Foreign number, 1)

abbrev pub own : ℕ × ℕ → Entry
own entry = (Own entry.0, entry.1)

counts-there : (node : Node) (entry : Entry) (a b : List Entry) (c : Bool) → counts_of node (a ++ b) ≡ counts_of node a ++ counts_of node b
    → map (λ (e : Entry). e.1) (cond c (entry ∷ filter (λ (e : Entry). same_node e.0 node) (a ++ b))
    (filter (λ (e : Entry). same_node e.0 node) (a ++ b)))
    ≡ map (λ (e : Entry). e.1) (cond c (entry ∷ filter (λ (e : Entry). same_node e.0 node) a)
    (filter (λ (e : Entry). same_node e.0 node) a)) ++ counts_of node b
counts-there node entry a b true later = ap (λ (l : List ℕ). entry.1 ∷ l) later
counts-there node entry a b false later = later

pub counts-joined : (node : Node) (a b : List Entry) → counts_of node (a ++ b) ≡ counts_of node a ++ counts_of node b
counts-joined node [] b = refl
counts-joined node (entry ∷ a) b = counts-there node entry a b (same_node entry.0 node) (counts-joined node a b)

module _ (m : Node) (entry : Entry) where
  abbrev pub counted : List Entry → Bool → List ℕ
  counted nodes b = map (λ (e : Entry). e.1)
      (cond b (entry ∷ filter (λ (e : Entry). same_node e.0 m) nodes) (filter (λ (e : Entry). same_node e.0 m) nodes))

  pub passed : (nodes : List Entry) → same_node entry.0 m ≡ true → counts_of m (entry ∷ nodes) ≡ entry.1 ∷ counts_of m nodes
  passed nodes is = ap (λ (b : Bool). counted nodes b) is

  pub aside : (nodes : List Entry) → same_node entry.0 m ≡ false → counts_of m (entry ∷ nodes) ≡ counts_of m nodes
  aside nodes is = ap (λ (b : Bool). counted nodes b) is

  pub behind : (nodes others : List Entry) → counts_of m nodes ≡ counts_of m others
      → counts_of m (entry ∷ nodes) ≡ counts_of m (entry ∷ others)
  behind nodes others same = there (same_node entry.0 m)
    where
      there : (b : Bool) → counted nodes b ≡ counted others b
      there true = ap (λ (l : List ℕ). entry.1 ∷ l) same
      there false = same

-- no own node is one outside
none-own : (number : ℕ) (entries : List (ℕ × ℕ)) → counts_of (Foreign number) (map own entries) ≡ []
none-own number [] = refl
none-own number (entry ∷ more) = none-own number more

abbrev pub is_some_of : List ℕ → Bool
is_some_of [] = false
is_some_of (x ∷ xs) = true

in-there : (node : Node) (entry : Entry) (more : List Entry) (c : Bool) → is_in node more ≡ is_some_of (counts_of node more)
    → (c || is_in node more) ≡ is_some_of
    (map (λ (e : Entry). e.1) (cond c (entry ∷ filter (λ (e : Entry). same_node e.0 node) more)
    (filter (λ (e : Entry). same_node e.0 node) more)))
in-there node entry more true later = refl
in-there node entry more false later = later

pub in-counted : (node : Node) (nodes : List Entry) → is_in node nodes ≡ is_some_of (counts_of node nodes)
in-counted node [] = refl
in-counted node (entry ∷ more) = in-there node entry more (same_node entry.0 node) (in-counted node more)

in-outside : (number : ℕ) (numbers : List ℕ) → list_any (is_at (nat_cmp number)) numbers ≡ is_in (Foreign number) (map outside numbers)
in-outside number [] = refl
in-outside number (other ∷ more) = rw (tested number other) (rw (in-outside number more) refl)

in-joined : (number : ℕ) (entries : List (ℕ × ℕ)) (more : List Entry)
    → is_in (Foreign number) (map own entries ++ more) ≡ is_in (Foreign number) more
in-joined number [] more = refl
in-joined number (entry ∷ entries) more = in-joined number entries more

-- a node outside is in the segment just if it is in the phase
pub outside-in : (number : ℕ) (seated : Nodes) (nodes : List Entry) → NodesStand seated nodes
    → is_in (Foreign number) nodes ≡ has_foreign number seated
outside-in number seated nodes stands =
    in-counted (Foreign number) nodes ∙ ap is_some_of (stands.same (Foreign number)) ∙ sym (in-counted (Foreign number) (seats_of seated))
    ∙ in-joined number seated.own (map outside seated.foreign) ∙ sym (in-outside number seated.foreign)

-- ---- who comes

come-there : (node : Node) (entry : Entry) (nodes : List Entry) (m : Node) (p c : Bool) → same_node node m ≡ p → same_node entry.0 node ≡ c
    → (c || is_in node nodes) ≡ false
    → (is_in node nodes ≡ false → counts_of m (entered node nodes) ≡ cond p (1 ∷ []) (counts_of m nodes))
    → counts_of m (cond c ((node, entry.1 + 1) ∷ nodes) (entry ∷ entered node nodes)) ≡ cond p (1 ∷ []) (counts_of m (entry ∷ nodes))
come-there node entry nodes m p true is same out later = on out
come-there node entry nodes m true false is same out later =
    aside m entry (entered node nodes) (subst (λ (n : Node). same_node entry.0 n ≡ false) (node-is node m is) same) ∙ later out
come-there node entry nodes m false false is same out later = behind m entry (entered node nodes) nodes (later out)

-- who comes in that wasn't is there once, and nobody else changes
pub come : (node : Node) (nodes : List Entry) (m : Node) → is_in node nodes ≡ false
    → counts_of m (entered node nodes) ≡ cond (same_node node m) (1 ∷ []) (counts_of m nodes)
come node [] m out = by_test (same_node node m) (λ is. rw is refl) (λ isnt. rw isnt refl)
come node (entry ∷ nodes) m out =
    come-there node entry nodes m (same_node node m) (same_node entry.0 node) refl refl out (λ later. come node nodes m later)

longer-there : (node : Node) (entry : Entry) (nodes : List Entry) (c : Bool) → (c || is_in node nodes) ≡ false
    → (is_in node nodes ≡ false → length (entered node nodes) ≡ length nodes + 1)
    → length (cond c ((node, entry.1 + 1) ∷ nodes) (entry ∷ entered node nodes)) ≡ length (entry ∷ nodes) + 1
longer-there node entry nodes true out later = on out
longer-there node entry nodes false out later = omega (arith, later out)

pub longer : (node : Node) (nodes : List Entry) → is_in node nodes ≡ false → length (entered node nodes) ≡ length nodes + 1
longer node [] out = refl
longer node (entry ∷ nodes) out = longer-there node entry nodes (same_node entry.0 node) out (λ later. longer node nodes later)

-- one more in a set
insert-there : (number other : ℕ) (numbers : List ℕ) (m : Node) (p : Bool) (o : Ordering) → same_node (Foreign number) m ≡ p
    → nat_cmp number other ≡ o
    → (is_eq o || list_any (is_at (nat_cmp number)) numbers) ≡ false
    → (list_any (is_at (nat_cmp number)) numbers ≡ false
    → counts_of m (map outside (insert_key nat_cmp numbers number)) ≡ cond p (1 ∷ []) (counts_of m (map outside numbers)))
    → counts_of m (map outside (match_ordering o (number ∷ other ∷ numbers) (other ∷ numbers) (other ∷ insert_key nat_cmp numbers number)))
    ≡ cond p (1 ∷ []) (counts_of m (map outside (other ∷ numbers)))
insert-there number other numbers m p Equal is at out later = on out
insert-there number other numbers m true Less is at out later =
    passed m (outside number) (map outside (other ∷ numbers)) is ∙ ap (λ (l : List ℕ). 1 ∷ l) none
  where
    whole : is_in (Foreign number) (map outside (other ∷ numbers)) ≡ false
    whole = sym (in-outside number (other ∷ numbers)) ∙ (rw at out)

    empty : (l : List ℕ) → is_some_of l ≡ false → l ≡ []
    empty [] e = refl
    empty (x ∷ xs) e = on e

    none : counts_of m (map outside (other ∷ numbers)) ≡ []
    none = subst (λ (n : Node). counts_of n (map outside (other ∷ numbers)) ≡ []) (node-is (Foreign number) m is)
        (empty (counts_of (Foreign number) (map outside (other ∷ numbers)))
        (sym (in-counted (Foreign number) (map outside (other ∷ numbers))) ∙ whole))
insert-there number other numbers m false Less is at out later = aside m (outside number) (map outside (other ∷ numbers)) is
insert-there number other numbers m true Greater is at out later =
    aside m (outside other) (map outside (insert_key nat_cmp numbers number)) unlike ∙ later out
  where
    apart : (other == number) ≡ false
    apart = sym (tested number other) ∙ ap is_eq at

    unlike : same_node (Foreign other) m ≡ false
    unlike = subst (λ (n : Node). same_node (Foreign other) n ≡ false) (node-is (Foreign number) m is) apart
insert-there number other numbers m false Greater is at out later =
    behind m (outside other) (map outside (insert_key nat_cmp numbers number)) (map outside numbers) (later out)

insert : (number : ℕ) (numbers : List ℕ) (m : Node) → list_any (is_at (nat_cmp number)) numbers ≡ false
    → counts_of m (map outside (insert_key nat_cmp numbers number))
    ≡ cond (same_node (Foreign number) m) (1 ∷ []) (counts_of m (map outside numbers))
insert number [] m out = by_test (same_node (Foreign number) m) (λ is. rw is refl) (λ isnt. rw isnt refl)
insert number (other ∷ numbers) m out =
    insert-there number other numbers m (same_node (Foreign number) m) (nat_cmp number other) refl refl out
    (λ later. insert number numbers m later)

inserted-length : (number : ℕ) (numbers : List ℕ) → list_any (is_at (nat_cmp number)) numbers ≡ false
    → length (insert_key nat_cmp numbers number) ≡ length numbers + 1
inserted-length number [] out = refl
inserted-length number (other ∷ numbers) out = there (nat_cmp number other) out (λ later. inserted-length number numbers later)
  where
    there : (o : Ordering) → (is_eq o || list_any (is_at (nat_cmp number)) numbers) ≡ false
        → (list_any (is_at (nat_cmp number)) numbers ≡ false → length (insert_key nat_cmp numbers number) ≡ length numbers + 1)
        → length (match_ordering o (number ∷ other ∷ numbers) (other ∷ numbers) (other ∷ insert_key nat_cmp numbers number))
        ≡ length (other ∷ numbers) + 1
    there Less out later = omega arith
    there Equal out later = on out
    there Greater out later = omega (arith, later out)

short : (p : Bool) (l : List ℕ) → length l ≤ 1 → length (cond p (1 ∷ []) l) ≤ 1
short true l few = omega arith
short false l few = few

module _ (number : ℕ) (seated : Nodes) (nodes : List Entry) (stands : NodesStand seated nodes) (out : has_foreign number seated ≡ false)
  where
    isn't_in : is_in (Foreign number) nodes ≡ false
    isn't_in = outside-in number seated nodes stands ∙ out

    seat-there : (m : Node) (p : Bool) → same_node (Foreign number) m ≡ p
        → cond p (1 ∷ []) (counts_of m (seats_of seated)) ≡ counts_of m (map own seated.own)
        ++ cond p (1 ∷ []) (counts_of m (map outside seated.foreign))
    seat-there m true is = subst (λ (n : Node). 1 ∷ [] ≡ counts_of n (map own seated.own) ++ 1 ∷ []) (node-is (Foreign number) m is)
        (ap (λ (l : List ℕ). l ++ 1 ∷ []) (sym (none-own number seated.own)))
    seat-there m false is = counts-joined m (map own seated.own) (map outside seated.foreign)

    -- a node outside that wasn't in comes into both
    pub comes-in : NodesStand (with_foreign number seated) (entered (Foreign number) nodes)
    comes-in = record {
      same = λ m. come (Foreign number) nodes m isn't_in
          ∙ ap (λ (l : List ℕ). cond (same_node (Foreign number) m) (1 ∷ []) l) (stands.same m)
          ∙ seat-there m (same_node (Foreign number) m) refl
          ∙ ap (λ (l : List ℕ). counts_of m (map own seated.own) ++ l) (sym (insert number seated.foreign m out))
          ∙ sym (counts-joined m (map own seated.own) (map outside (insert_key nat_cmp seated.foreign number)));
      once = λ m. subst (λ (l : List ℕ). length l ≤ 1) (sym (come (Foreign number) nodes m isn't_in))
          (short (same_node (Foreign number) m) (counts_of m nodes) (stands.once m));
      many = omega (arith, longer (Foreign number) nodes isn't_in, inserted-length number seated.foreign out, stands.many);
    }

-- one node outside, alone
pub first-in : (number max_nodes : ℕ) → NodesStand (first_foreign number max_nodes) ((Foreign number, 1) ∷ [])
first-in number max_nodes = record {
  same = λ m. refl;
  once = λ m. by_test (same_node (Foreign number) m) (λ is. rw is (omega arith)) (λ isnt. rw isnt (omega arith));
  many = refl;
}

-- ---- who leaves

rest : {l : List ℕ} (x : ℕ) → x ∷ l ≡ 1 ∷ [] → l ≡ []
rest x e = cc

first : {l : List ℕ} (x : ℕ) → x ∷ l ≡ 1 ∷ [] → x ≡ 1
first x e = cc

go-there : (node : Node) (entry : Entry) (nodes : List Entry) (m : Node) (p c : Bool) → same_node node m ≡ p → same_node entry.0 node ≡ c
    → map (λ (e : Entry). e.1) (cond c (entry ∷ filter (λ (e : Entry). same_node e.0 node) nodes)
    (filter (λ (e : Entry). same_node e.0 node) nodes)) ≡ 1 ∷ []
    → (counts_of node nodes ≡ 1 ∷ [] → counts_of m (left node nodes) ≡ cond p [] (counts_of m nodes))
    → (d : Bool) → nat_le entry.1 1 ≡ d
    → counts_of m (cond c (cond d nodes ((node, entry.1 - 1) ∷ nodes)) (entry ∷ left node nodes)) ≡ cond p [] (counts_of m (entry ∷ nodes))
go-there node entry nodes m p true is same one later false more = on (subst (λ (n : ℕ). nat_le n 1 ≡ false) (first entry.1 one) more)
go-there node entry nodes m true true is same one later true last =
    subst (λ (n : Node). counts_of n nodes ≡ []) (node-is node m is) (rest entry.1 one)
go-there node entry nodes m false true is same one later true last =
    sym (aside m entry nodes (subst (λ (n : Node). same_node n m ≡ false) (sym (node-is entry.0 node same)) is))
go-there node entry nodes m true false is same one later d last =
    aside m entry (left node nodes) (subst (λ (n : Node). same_node entry.0 n ≡ false) (node-is node m is) same) ∙ later one
go-there node entry nodes m false false is same one later d last = behind m entry (left node nodes) nodes (later one)

-- who leaves that was there once isn't there, and nobody else changes
go : (node : Node) (nodes : List Entry) (m : Node) → counts_of node nodes ≡ 1 ∷ []
    → counts_of m (left node nodes) ≡ cond (same_node node m) [] (counts_of m nodes)
go node [] m one = by_test (same_node node m) (λ is. rw is refl) (λ isnt. rw isnt refl)
go node (entry ∷ nodes) m one =
    go-there node entry nodes m (same_node node m) (same_node entry.0 node) refl refl one (λ later. go node nodes m later)
    (nat_le entry.1 1) refl

shorter-there : (node : Node) (entry : Entry) (nodes : List Entry) (c : Bool)
    → map (λ (e : Entry). e.1) (cond c (entry ∷ filter (λ (e : Entry). same_node e.0 node) nodes)
    (filter (λ (e : Entry). same_node e.0 node) nodes)) ≡ 1 ∷ []
    → (counts_of node nodes ≡ 1 ∷ [] → length (left node nodes) + 1 ≡ length nodes) → (d : Bool) → nat_le entry.1 1 ≡ d
    → length (cond c (cond d nodes ((node, entry.1 - 1) ∷ nodes)) (entry ∷ left node nodes)) + 1 ≡ length (entry ∷ nodes)
shorter-there node entry nodes true one later false more = on (subst (λ (n : ℕ). nat_le n 1 ≡ false) (first entry.1 one) more)
shorter-there node entry nodes true one later true last = omega arith
shorter-there node entry nodes false one later d last = omega (arith, later one)

shorter : (node : Node) (nodes : List Entry) → counts_of node nodes ≡ 1 ∷ [] → length (left node nodes) + 1 ≡ length nodes
shorter node [] one = absurd (differ one)
  where
    differ : ◌≡◌ {A = List ℕ} [] (1 ∷ []) → ⊥
    differ e = cc
shorter node (entry ∷ nodes) one =
    shorter-there node entry nodes (same_node entry.0 node) one (λ later. shorter node nodes later) (nat_le entry.1 1) refl

-- a number that is taken out of a set
removed : (number : ℕ) (numbers : List ℕ)
    → map outside (remove_key (is_at (nat_cmp number)) numbers) ≡ left (Foreign number) (map outside numbers)
removed number [] = refl
removed number (other ∷ more) = rw (tested number other) (there (other == number) (removed number more))
  where
    there : (c : Bool) → map outside (remove_key (is_at (nat_cmp number)) more) ≡ left (Foreign number) (map outside more)
        → map outside (cond c more (other ∷ remove_key (is_at (nat_cmp number)) more))
        ≡ cond c (map outside more) (outside other ∷ left (Foreign number) (map outside more))
    there true later = refl
    there false later = ap (λ (l : List Entry). outside other ∷ l) later

past : (number : ℕ) (entries : List (ℕ × ℕ)) (more : List Entry)
    → left (Foreign number) (map own entries ++ more) ≡ map own entries ++ left (Foreign number) more
past number [] more = refl
past number (entry ∷ entries) more = ap (λ (l : List Entry). own entry ∷ l) (past number entries more)

seats-removed : (number : ℕ) (seated : Nodes) → seats_of (without_foreign number seated) ≡ left (Foreign number) (seats_of seated)
seats-removed number seated =
    ap (λ (l : List Entry). map own seated.own ++ l) (removed number seated.foreign) ∙ sym
    (past number seated.own (map outside seated.foreign))

outsiders : (numbers : List ℕ) → length (map outside numbers) ≡ length numbers
outsiders [] = refl
outsiders (number ∷ more) = omega (arith, outsiders more)

seats-many : (entries : List (ℕ × ℕ)) (numbers : List ℕ) → length (map own entries ++ map outside numbers) ≡ length entries + length numbers
seats-many [] numbers = omega (arith, outsiders numbers)
seats-many (entry ∷ more) numbers = omega (arith, seats-many more numbers)

-- a node outside that is in a set, once at most, is there once
once-there : (number : ℕ) (numbers : List ℕ) → length (counts_of (Foreign number) (map outside numbers)) ≤ 1
    → list_any (is_at (nat_cmp number)) numbers ≡ true → counts_of (Foreign number) (map outside numbers) ≡ 1 ∷ []
once-there number [] few is = no is
once-there number (other ∷ more) few is =
    there (other == number) few (sym (ap (λ (b : Bool). b || list_any (is_at (nat_cmp number)) more) (tested number other)) ∙ is)
    (λ f i. once-there number more f i)
  where
    empty : (l : List ℕ) → length (1 ∷ l) ≤ 1 → 1 ∷ l ≡ 1 ∷ []
    empty [] e = refl
    empty (x ∷ xs) e = absurd (omega (arith, e))

    there : (c : Bool) → length (counted (Foreign number) (outside other) (map outside more) c) ≤ 1
        → (c || list_any (is_at (nat_cmp number)) more) ≡ true
        → (length (counts_of (Foreign number) (map outside more)) ≤ 1 → list_any (is_at (nat_cmp number)) more ≡ true
        → counts_of (Foreign number) (map outside more) ≡ 1 ∷ [])
        → counted (Foreign number) (outside other) (map outside more) c ≡ 1 ∷ []
    there true few is later = empty (counts_of (Foreign number) (map outside more)) few
    there false few is later = later few is

none-more : (p : Bool) (l : List ℕ) → length l ≤ 1 → length (cond p [] l) ≤ 1
none-more true l few = omega arith
none-more false l few = few

module _ (number : ℕ) (seated : Nodes) (nodes : List Entry) (stands : NodesStand seated nodes) (is : has_foreign number seated ≡ true) where
  there : counts_of (Foreign number) (seats_of seated) ≡ counts_of (Foreign number) (map outside seated.foreign)
  there = counts-joined (Foreign number) (map own seated.own) (map outside seated.foreign)
      ∙ ap (λ (l : List ℕ). l ++ counts_of (Foreign number) (map outside seated.foreign)) (none-own number seated.own)

  seat : counts_of (Foreign number) (seats_of seated) ≡ 1 ∷ []
  seat = there ∙ once-there number seated.foreign
      (subst (λ (l : List ℕ). length l ≤ 1) (stands.same (Foreign number) ∙ there) (stands.once (Foreign number))) is

  one : counts_of (Foreign number) nodes ≡ 1 ∷ []
  one = stands.same (Foreign number) ∙ seat

  fewer : length (left (Foreign number) nodes) ≡ count_in (without_foreign number seated)
  fewer =
      let all : length (seats_of seated) ≡ count_in seated = seats-many seated.own seated.foreign in
      let after : length (seats_of (without_foreign number seated)) ≡ count_in (without_foreign number seated) =
      seats-many seated.own (remove_key (is_at (nat_cmp number)) seated.foreign) in
      let less : length (left (Foreign number) (seats_of seated)) + 1 ≡ length (seats_of seated)
      = shorter (Foreign number) (seats_of seated) seat in
      let same : length (seats_of (without_foreign number seated)) ≡ length (left (Foreign number) (seats_of seated)) =
      ap (λ (l : List Entry). length l) (seats-removed number seated) in
      omega (arith, all, after, less, same, shorter (Foreign number) nodes one, stands.many)

  -- a node outside that was in leaves both
  pub goes-out : NodesStand (without_foreign number seated) (left (Foreign number) nodes)
  goes-out = record {
    same = λ m. go (Foreign number) nodes m one
        ∙ ap (λ (l : List ℕ). cond (same_node (Foreign number) m) [] l) (stands.same m)
        ∙ sym (go (Foreign number) (seats_of seated) m seat)
        ∙ ap (λ (l : List Entry). counts_of m l) (sym (seats-removed number seated));
    once = λ m. subst (λ (l : List ℕ). length l ≤ 1) (sym (go (Foreign number) nodes m one))
        (none-more (same_node (Foreign number) m) (counts_of m nodes) (stands.once m));
    many = fewer;
  }
