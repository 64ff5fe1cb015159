-- Counts by owner of what exists, after a borrowed port has changed, after a port is added, and after one is removed.
use Rattle.std.proofs.Common.{rules, arith, ◌≡◌, ◌+◌, ◌-◌, ◌<◌, ◌≤◌, ◌==◌, ◌∙◌, ℕ, min, List, [], ◌∷◌, length, map, Option, None, Some}
use Rattle.std.proofs.Common.{Bool, true, false, cond, is_some, refl, sym, ap, if◌then◌else◌}
use Rattle.std.specs.Prelude.{sum_by, unwrap_or, option_map}
use Rattle.std.specs.BTreeMap.{is_at, insert_entry}
use Rattle.std.specs.Map.{lookup, values_of, keys_of, set_value, remove_entry}
use Rattle.std.specs.Ordering.{nat_cmp}
use Rattle.std.specs.Cmp.{eq_by_cmp_equiv}
use Rattle.std.specs.List.{AllByRecursion}
use Rattle.std.specs.List.Sorted.{IsStrictlySortedBy}
use Rattle.std.proofs.lemmas.Cmp.{nat_cmp_total}
use Rattle.std.proofs.lemmas.List.{length-map}
use Rattle.std.proofs.lemmas.List.Sums.{sum_by-cons}
use Rattle.std.proofs.lemmas.Map.{length-set_value, lookup-set_value}
use Rattle.std.proofs.lemmas.Map.Entries.{sum_by-set_value, sum_by-remove_entry, sum_by-insert_entry}
use Rattle.iox_container.proofs.Numbers.{inserted_count, removed_count}
use Rattle.iox_domain_ports.specs.Census.{amount, no_share, share_at, publisher_share, subscriber_share, tallied, shared}
use Rattle.iox_domain_ports.specs.Census.{IsCensusOf, HasRoomFor}
use Rattle.iox_domain_ports.specs.Tallies.{count_under}
use Rattle.iox_domain_ports.specs.declared.census.Census.{Census}
use Rattle.iox_domain_ports.specs.declared.census.Share.{Share}
use Rattle.iox_domain_ports.specs.declared.publisher_port.PublisherPort.{PublisherPort}
use Rattle.iox_domain_ports.specs.declared.subscriber_port.SubscriberPort.{SubscriberPort}

none_counts : (same : Bool) → ◌≡◌ {A = ℕ} (if same then 0 else 0) 0
none_counts true = refl
none_counts false = refl

-- nothing counts of no share
nothing : (owner : Option ℕ) → amount owner no_share ≡ 0
nothing None = refl
nothing (Some owner) = none_counts (owner == 0)

-- what a look-up finds counts as its share
found_part : {P : Type 0} (share : P → Share) (owner : Option ℕ) (found : Option P)
    → unwrap_or (option_map (λ port. amount owner (share port)) found) 0 ≡ amount owner (share_at share found)
found_part share owner None = sym (nothing owner)
found_part share owner (Some port) = refl

-- where no key passes nothing is put
none_put : {P : Type 0} (test : ℕ → Bool) (entries : List (ℕ × P)) (after : P) → lookup test entries ≡ None
    → set_value test entries after ≡ entries
none_put test [] after none = refl
none_put test (entry ∷ entries) after none = at (test entry.0) refl (λ rest. none_put test entries after rest)
  where
    at : (here : Bool) → test entry.0 ≡ here → (lookup test entries ≡ None → set_value test entries after ≡ entries)
        → set_value test (entry ∷ entries) after ≡ entry ∷ entries
    at true is later =
        let found : Some entry.1 ≡ None = ap (λ b. cond b (Some entry.1) (lookup test entries)) (sym is) ∙ none in
        search (rules, found)
    at false is later =
        let found : lookup test entries ≡ None = ap (λ b. cond b (Some entry.1) (lookup test entries)) (sym is) ∙ none in
        rw is (ap (λ es. entry ∷ es) (later found))

-- what was put under a number is found there
put_found : {P : Type 0} (number : ℕ) (ports : List (ℕ × P)) (port after : P) → lookup (is_at (nat_cmp number)) ports ≡ Some port
    → lookup (is_at (nat_cmp number)) (set_value (is_at (nat_cmp number)) ports after) ≡ Some after
put_found number ports port after there =
    let same = eq_by_cmp_equiv nat_cmp_total in
    lookup-set_value same (is_at (nat_cmp number)) (same.congr number) number after ports (ap is_some there)
    ∙ ap (λ here. cond here (Some after) (lookup (is_at (nat_cmp number)) ports)) (same.refl number)

module _ {P : Type 0} (share : P → Share) (number : ℕ) where
  -- the share of the port that was lent last
  lent_part : (owner : Option ℕ) (census : Census) (ports : List (ℕ × P)) → census.lent ≡ number
      → amount owner (share_at share (lookup (is_at (nat_cmp census.lent)) ports))
      ≡ amount owner (share_at share (lookup (is_at (nat_cmp number)) ports))
  lent_part owner census ports lent = ap (λ at. amount owner (share_at share (lookup (is_at (nat_cmp at)) ports))) lent

  -- the share of what is found under a number
  share_found : (owner : Option ℕ) (ports : List (ℕ × P)) (found : Option P) → lookup (is_at (nat_cmp number)) ports ≡ found
      → amount owner (share_at share (lookup (is_at (nat_cmp number)) ports)) ≡ amount owner (share_at share found)
  share_found owner ports found is = ap (λ found. amount owner (share_at share found)) is

  -- the counts after the port that was lent last was changed
  pub changed_told : (census : Census) (ports after : List (ℕ × P)) (port : P) → IsCensusOf share census ports → census.lent ≡ number
      → after ≡ set_value (is_at (nat_cmp number)) ports port → IsCensusOf share census after
  changed_told census ports after port tells lent is = at (lookup (is_at (nat_cmp number)) ports) refl
    where
      at : (found : Option P) → lookup (is_at (nat_cmp number)) ports ≡ found → IsCensusOf share census after
      at None none = rw (is ∙ none_put (is_at (nat_cmp number)) ports port none) tells
      at (Some before) there = record {
        counts = λ owner.
            omega (
              arith,
              lent_part owner census ports lent,
              lent_part owner census after lent,
              share_found owner ports (Some before) there,
              share_found owner after (Some port) (ap (lookup (is_at (nat_cmp number))) is ∙ put_found number ports before port there),
              tells.counts owner,
              ap (shared share owner) is,
              sum_by-set_value (λ one. amount owner (share one)) (is_at (nat_cmp number)) ports before port there,
            );
        room = omega (arith, tells.room, ap length is, length-set_value (is_at (nat_cmp number)) ports port);
      }

  -- the counts after a port came under the number that was lent last
  pub added_told : (old new : Census) (ports after : List (ℕ × P)) (port : P) (now : Share) → IsStrictlySortedBy nat_cmp (keys_of ports)
      → IsCensusOf share old ports → old.lent ≡ number → now ≡ share port → length ports < old.owners.room
      → ((owner : Option ℕ) → tallied owner new + amount owner old.noted ≡ tallied owner old + amount owner now)
      → new.owners.room ≡ old.owners.room → new.lent ≡ old.lent → new.noted ≡ now → after ≡ insert_entry nat_cmp ports number port
      → lookup (is_at (nat_cmp number)) after ≡ Some port → IsCensusOf share new after
  added_told old new ports after port now sorted tells lent share_is roomy counts room same noted is there = record {
    counts = λ owner.
        omega (
          arith,
          lent_part owner old ports lent,
          lent_part owner new after (same ∙ lent),
          share_found owner after (Some port) there,
          ap (amount owner) share_is,
          ap (amount owner) noted,
          counts owner,
          tells.counts owner,
          ap (shared share owner) is,
          found_part share owner (lookup (is_at (nat_cmp number)) ports),
          sum_by-insert_entry (λ one. amount owner (share one)) nat_cmp_total ports number port sorted,
        );
    room = omega (arith, roomy, room, ap length is, inserted_count number port ports sorted);
  }

  -- the counts after the port that was lent last was taken away
  pub removed_told : (old new : Census) (ports after : List (ℕ × P)) → IsCensusOf share old ports → old.lent ≡ number
      → ((owner : Option ℕ) → tallied owner new + amount owner old.noted ≡ tallied owner old + amount owner no_share)
      → new.owners.room ≡ old.owners.room → new.lent ≡ old.lent → new.noted ≡ no_share
      → after ≡ remove_entry (is_at (nat_cmp number)) ports → lookup (is_at (nat_cmp number)) after ≡ None → IsCensusOf share new after
  removed_told old new ports after tells lent counts room same noted is gone = record {
    counts = λ owner.
        omega (
          arith,
          lent_part owner old ports lent,
          lent_part owner new after (same ∙ lent),
          share_found owner after None gone,
          ap (amount owner) noted,
          nothing owner,
          counts owner,
          tells.counts owner,
          ap (shared share owner) is,
          found_part share owner (lookup (is_at (nat_cmp number)) ports),
          sum_by-remove_entry (λ one. amount owner (share one)) (is_at (nat_cmp number)) ports,
        );
    room = omega (arith, tells.room, room, ap length is, removed_count number ports);
  }

-- how much of a port is alive is below 2^64
pub publisher_small : {T U : Type 0} (port : PublisherPort T U) → (publisher_share port).count < 18446744073709551616
publisher_small port = omega arith

pub subscriber_small : (port : SubscriberPort) → (subscriber_share port).count < 18446744073709551616
subscriber_small port = omega arith

tallied_like : (owner : Option ℕ) (old new : Census) → new.total ≡ old.total → new.owners.counts ≡ old.owners.counts
    → tallied owner new ≡ tallied owner old
tallied_like None old new total counts = total
tallied_like (Some owner) old new total counts = ap (count_under owner) counts

module _ {P : Type 0} (share : P → Share) where
  -- the counts with more room
  pub roomier_told : (old new : Census) (ports : List (ℕ × P)) → IsCensusOf share old ports
      → new ≡ record old { owners = record { counts = old.owners.counts; room = new.owners.room } } → old.owners.room ≤ new.owners.room
      → IsCensusOf share new ports
  roomier_told old new ports tells same grows = record {
    counts = λ owner.
        omega (
          arith,
          tells.counts owner,
          tallied_like owner old new (ap (λ census. census.total) same) (ap (λ census. census.owners.counts) same),
          ap (λ census. amount owner (share_at share (lookup (is_at (nat_cmp census.lent)) ports))) same,
          ap (λ census. amount owner census.noted) same,
        );
    room = omega (arith, tells.room, grows);
  }

  -- the counts after another port was lent
  pub lent_told : (old new : Census) (ports : List (ℕ × P)) (before : Share) → IsCensusOf share old ports
      → before ≡ share_at share (lookup (is_at (nat_cmp old.lent)) ports)
      → ((owner : Option ℕ) → tallied owner new + amount owner old.noted ≡ tallied owner old + amount owner before)
      → new.owners.room ≡ old.owners.room → new.noted ≡ share_at share (lookup (is_at (nat_cmp new.lent)) ports)
      → IsCensusOf share new ports
  lent_told old new ports before tells before_is counts room noted = record {
    counts = λ owner. omega (arith, tells.counts owner, ap (amount owner) before_is, counts owner, ap (amount owner) noted);
    room = omega (arith, tells.room, room);
  }

  -- the shares of ports
  abbrev shares_of : List (ℕ × P) → List Share
  shares_of ports = map (λ port. share port.1) ports

  shares_sum : (owner : Option ℕ) (ports : List (ℕ × P)) → sum_by (amount owner) (shares_of ports) ≡ shared share owner ports
  shares_sum owner [] = refl
  shares_sum owner (port ∷ ports) =
      omega (
        arith,
        sum_by-cons (amount owner) (share port.1) (shares_of ports),
        sum_by-cons (λ one. amount owner (share one)) port.1 (values_of ports),
        shares_sum owner ports,
      )

  shares_small : (ports : List (ℕ × P)) → ((port : P) → (share port).count < 18446744073709551616)
      → AllByRecursion (λ share. share.count < 18446744073709551616) (shares_of ports)
  shares_small [] small = tt
  shares_small (port ∷ ports) small = (small port.1, shares_small ports small)

  -- what is counted besides the port that was lent last is what the others share, and there is room for them
  pub roomy : (census : Census) (ports : List (ℕ × P)) (after : Share) → ((port : P) → (share port).count < 18446744073709551616)
      → IsCensusOf share census ports → after.count < 18446744073709551616
      → (0 < after.count → length (remove_entry (is_at (nat_cmp census.lent)) ports) < census.owners.room)
      → HasRoomFor census.noted after census
  roomy census ports after small tells next room =
      let others = remove_entry (is_at (nat_cmp census.lent)) ports in
      let long = length-map others (λ port. share port.1) in
      record {
        others = shares_of others;
        counts = λ owner.
            omega (
              arith,
              tells.counts owner,
              found_part share owner (lookup (is_at (nat_cmp census.lent)) ports),
              sum_by-remove_entry (λ one. amount owner (share one)) (is_at (nat_cmp census.lent)) ports,
              shares_sum owner others,
            );
        small = shares_small others small;
        few = omega (arith, tells.room, removed_count census.lent ports, long);
        room = λ some. omega (arith, room some, long);
        next = next;
      }

  found_small : ((port : P) → (share port).count < 18446744073709551616) → (found : Option P)
      → (share_at share found).count < 18446744073709551616
  found_small small None = omega arith
  found_small small (Some port) = small port

  -- a port that counts is one less where it is taken away
  fewer_others : (number : ℕ) (ports : List (ℕ × P)) (found : Option P) → lookup (is_at (nat_cmp number)) ports ≡ found
      → 0 < (share_at share found).count → length (remove_entry (is_at (nat_cmp number)) ports) < length ports
  fewer_others number ports None is some = absurd (omega (arith, some))
  fewer_others number ports (Some port) is some =
      omega (arith, removed_count number ports, ap {B = ℕ} (λ found. if is_some found then 1 else 0) is)

  -- there is room for what the port that was lent last is now
  pub roomy_now : (census : Census) (ports : List (ℕ × P)) (now : Share) → ((port : P) → (share port).count < 18446744073709551616)
      → IsCensusOf share census ports → now ≡ share_at share (lookup (is_at (nat_cmp census.lent)) ports)
      → HasRoomFor census.noted now census
  roomy_now census ports now small tells is =
      let found = lookup (is_at (nat_cmp census.lent)) ports in
      roomy census ports now small tells (omega (arith, found_small small found, ap (λ now. now.count) is)) (λ some.
      omega (
        arith,
        tells.room,
        fewer_others census.lent ports found refl (omega (arith, some, ap (λ now. now.count) is)),
      ))

  -- there is room for what comes, where there is room for one owner more
  pub roomy_next : (census : Census) (ports : List (ℕ × P)) (next : Share) → ((port : P) → (share port).count < 18446744073709551616)
      → IsCensusOf share census ports → next.count < 18446744073709551616 → length ports < census.owners.room
      → HasRoomFor census.noted next census
  roomy_next census ports next small tells few room =
      roomy census ports next small tells few (λ some. omega (arith, room, removed_count census.lent ports))

  -- there is room for nothing
  pub roomy_none : (census : Census) (ports : List (ℕ × P)) → ((port : P) → (share port).count < 18446744073709551616)
      → IsCensusOf share census ports → HasRoomFor census.noted no_share census
  roomy_none census ports small tells = roomy census ports no_share small tells (omega arith) (λ some. absurd (omega (arith, some)))

  -- what is noted is counted
  pub noted_counts : (owner : Option ℕ) (census : Census) (ports : List (ℕ × P)) → IsCensusOf share census ports
      → amount owner census.noted ≤ tallied owner census
  noted_counts owner census ports tells =
      omega (
        arith,
        tells.counts owner,
        found_part share owner (lookup (is_at (nat_cmp census.lent)) ports),
        sum_by-remove_entry (λ one. amount owner (share one)) (is_at (nat_cmp census.lent)) ports,
      )

-- sums of numbers of which one kind is cut at a limit are the same up to that limit
cut_sums : {X : Type 0} (limit : ℕ) (f g : X → ℕ) (xs : List X) → ((x : X) → f x ≡ min (g x) limit)
    → min (sum_by f xs) limit ≡ min (sum_by g xs) limit
cut_sums limit f g [] is = refl
cut_sums limit f g (x ∷ xs) is =
    omega (arith, sum_by-cons f x xs, sum_by-cons g x xs, is x, cut_sums limit f g xs is)

-- what is told of an owner is what lives of it, up to a limit
pub told_living : {P : Type 0} (limit : ℕ) (share : P → Share) (g : P → ℕ) (owner : Option ℕ) (now : Share) (count : ℕ) (census : Census)
    (ports : List (ℕ × P)) → IsCensusOf share census ports → ((port : P) → amount owner (share port) ≡ min (g port) limit)
    → now ≡ share_at share (lookup (is_at (nat_cmp census.lent)) ports)
    → count ≡ min (tallied owner census - amount owner census.noted + amount owner now) limit
    → count ≡ min (sum_by g (values_of ports)) limit
told_living limit share g owner now count census ports tells cut is told =
    omega (
      arith,
      told,
      ap (amount owner) is,
      tells.counts owner,
      noted_counts share owner census ports tells,
      cut_sums limit (λ port. amount owner (share port)) g (values_of ports) cut,
    )
