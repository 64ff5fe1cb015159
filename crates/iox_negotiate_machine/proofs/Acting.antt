-- What a step of a node outside the hub does under a hash, and to the phase.
use Rattle.std.proofs.Common.{◌≡◌, ◌≢◌, ℕ, ◌+◌, ◌-◌, ◌^◌, ◌<◌, ◌≤◌, Bool, true, false, cond, not, ◌&&◌, List, [], ◌∷◌, ◌++◌, Option, None}
use Rattle.std.proofs.Common.{Some, is_some, Result, Ok, Err, length, nat_eq, nat_lt, refl, sym, ap, subst, ◌∙◌, arith}
use Rattle.std.proofs.lemmas.Bool.{eq-eqb, eqb-true}
use Rattle.std.specs.BTreeMap.{is_at}
use Rattle.std.specs.declared.alloc.AllocError.{AllocError}
use Rattle.iox_command.specs.NegotiateBase.Describe.Line.{line}
use Rattle.iox_command.specs.NegotiateBase.Describe.Within.{HasForm, IsWithinLimits}
use Rattle.iox_command.specs.NegotiateBase.DescribeBase.Hash.{service_hash_of}
use Rattle.iox_command.specs.NegotiateBase.DescribeBase.declared.hash.ServiceHash.{ServiceHash}
use Rattle.iox_command.specs.NegotiateBase.DescribeBase.declared.message_type.MessageTypeDetails.{MessageTypeDetails}
use Rattle.iox_command.specs.NegotiateBase.DescribeBase.declared.pattern.MessagingPattern.{MessagingPattern}
use Rattle.iox_command.specs.NegotiateBase.DescribeBase.declared.pattern.MessagingPattern.TheVariants as messaging
use Rattle.iox_command.specs.NegotiateBase.DescribeSettings.Agreement.{Agreement as Description, max_nodes_of}
use Rattle.iox_command.specs.NegotiateBase.DescribeSettings.Versions.{HasAll}
use Rattle.iox_command.specs.NegotiateBase.DescribeSettings.declared.description.Version.{Version}
use Rattle.iox_command.specs.NegotiateBase.DescribeSettings.declared.description.Version.TheVariants.{One, Two}
use Rattle.iox_command.specs.NegotiateBase.DescribeSettings.declared.static_config.Settings.{Settings}
use Rattle.iox_command.specs.NegotiateBase.DescribeSettings.declared.static_config.Settings.TheVariants as settings
use Rattle.iox_command.specs.NegotiateBase.DescribeSettings.Agreement.{pattern_of as described_pattern}
use Rattle.iox_command.specs.Patterns.{pattern_of}
use Rattle.iox_command.specs.declared.service.ServiceOptions.{ServiceOptions}
use Rattle.iox_command.specs.declared.service.ServiceOptions.TheVariants as options
use Rattle.iox_command.specs.declared.step.ForeignStep.{ForeignStep}
use Rattle.iox_command.specs.declared.step.ForeignStep.TheVariants as step
use Rattle.iox_machine.specs.Agreement.{Agreement, are_within_limits}
use Rattle.iox_machine.specs.Asked.{settings_of}
use Rattle.iox_machine.specs.Phase.{Node, Own, Foreign, Phase, Absent, BeingMade, Published, Emptied, same_pattern, is_in, entered, left}
use Rattle.iox_machine.specs.Phase.{left_by, removed_by, acted, has_numbers}
use Rattle.std.specs.Prelude.{bytes_eq}
use Rattle.iox_negotiate.proofs.Changes.{equal-of, place-apart, place-away, same-place}
use Rattle.iox_negotiate.proofs.Closing.{segment-gone}
use Rattle.iox_negotiate.proofs.Maps.{no, on, by_test, insert-apart, remove-apart, remove-same, set-apart}
use Rattle.iox_negotiate.proofs.Tables.{IsTable, digest-exact, digest-self, place-exact}
use Rattle.iox_negotiate_machine.proofs.Limits.{and-true, both, limits-within, limits-back}
use Rattle.iox_negotiate_machine.proofs.Seats.{same-bool, outside-in, comes-in, first-in, goes-out}
use Rattle.iox_negotiate_machine.specs.Laws.{HasStepForm, table_step_of, published_with}
use Rattle.iox_negotiate_machine.specs.Standing.{NodesStand, AreFalling, IsLast, IsDescribed, IsOpenTo, PhaseStands, description_of}
use Rattle.iox_negotiate_machine.specs.Standing.{table_node_of}
use Rattle.iox_negotiate_table.proofs.Entries.{lookup-added, lookup-set}
use Rattle.iox_negotiate_table.specs.Contents.{Contents, entry_at, segment_at, is_description_of, is_published, with_lock, without_entry}
use Rattle.iox_negotiate_table.specs.Contents.{with_segment, without_segment, digest_cmp, place_cmp}
use Rattle.iox_negotiate_table.specs.Foreign.{Acts, Done, DoneOrLacking, IsFor, PublishesForeign, RegistersAt, RegistersForeign}
use Rattle.iox_negotiate_table.specs.Foreign.{after_leaving, after_removal, foreign_lock, is_left_by, left_at, published_number}
use Rattle.iox_negotiate_table.specs.Foreign.{with_service}
use Rattle.iox_negotiate_table.specs.Nodes.{Nodes, RegistersIf, count_in, has_foreign, with_foreign, without_foreign, first_foreign}
use Rattle.iox_negotiate_table.specs.Segments.{RegistersIn, closed_if, foreign_left_if}
use Rattle.iox_negotiate_table.specs.declared.entry.Entry.{Entry}
use Rattle.iox_negotiate_table.specs.declared.entry.Entry.TheVariants.{Locked, Described}
use Rattle.iox_negotiate_table.specs.declared.node.Node.TheVariants as table_node
use Rattle.iox_negotiate_table.specs.declared.segment.Segment.{Segment}
use Rattle.iox_negotiate_table.specs.declared.segment.Segment.TheVariants as segment

-- ---- patterns

pub pattern-is : (one other : MessagingPattern) → same_pattern one other ≡ true → one ≡ other
pattern-is messaging.RequestResponse messaging.RequestResponse e = refl
pattern-is messaging.PublishSubscribe messaging.PublishSubscribe e = refl
pattern-is messaging.Event messaging.Event e = refl
pattern-is one other e = no e

pub pattern-itself : (one : MessagingPattern) → same_pattern one one ≡ true
pattern-itself messaging.RequestResponse = refl
pattern-itself messaging.PublishSubscribe = refl
pattern-itself messaging.Event = refl

pub name-itself : (one : List ℕ) → bytes_eq one one ≡ true
name-itself [] = refl
name-itself (x ∷ xs) = and-true (nat_eq x x) (bytes_eq xs xs) (eq-eqb x x refl) (name-itself xs)

-- the settings that are asked for have the pattern
pub kind-of : (types : MessageTypeDetails) (named : ServiceOptions) → described_pattern (settings_of types named) ≡ pattern_of named
kind-of types (options.PublishSubscribe named) = refl
kind-of types (options.Event named) = refl
kind-of types (options.RequestResponse named) = refl

-- ---- the number that was taken last

abbrev pub last : {So : ℕ → Type 0} (numbers : List ℕ) → IsLast So numbers → (number : ℕ) × So number
last [] so = absurd so
last (number ∷ before) so = (number, so)

abbrev spread : {A B : ℕ → Type 0} → (number : ℕ) × (A number × B number) → (number : ℕ) × A number × B number
spread found = (found.0, found.1.0, found.1.1)

-- it is the number that was taken last
last-is : (So : ℕ → Type 0) (numbers : List ℕ) (so : IsLast So numbers) → IsLast (λ at. at ≡ (last {So = So} numbers so).0) numbers
last-is So [] so = absurd so
last-is So (number ∷ before) so = refl

pub last-then : {So To : ℕ → Type 0} (numbers : List ℕ) → IsLast So numbers → ((number : ℕ) → So number → To number) → IsLast To numbers
last-then [] so then = absurd so
last-then (number ∷ before) so then = then number so

pub less-apart : (n m : ℕ) → n < m → nat_eq n m ≡ false
less-apart n m less = grind (arith, less)

-- no description of a number lies under a hash where something else does
pub undescribed : {entry : Option Entry} (hash : ServiceHash) (table : Contents) → entry_at hash table ≡ entry → (n : ℕ)
    → is_description_of n entry ≡ false → is_published hash n table ≡ false
undescribed hash table lies n isnt = subst (λ (e : Option Entry). is_description_of n e ≡ false) (sym lies) isnt

-- places of two numbers differ
pub places-apart : (hash : ServiceHash) (number n : ℕ) → nat_eq number n ≡ false
    → ◌≢◌ {A = List ℕ × ℕ} (hash.digest, number) (hash.digest, n)
places-apart hash number n differ same = on (sym (eq-eqb number n (ap (λ (p : List ℕ × ℕ). p.1) same)) ∙ differ)

-- names that a step asks about have hashes of their own
abbrev pub OwnHash : MessagingPattern → List ℕ → Type 0
OwnHash pattern name = (other : MessagingPattern) → service_hash_of other name ≡ service_hash_of pattern name → other ≡ pattern

-- ---- what a line of a version can say

-- whether a line of the version has all of the settings
abbrev is_said : Version → Settings → Bool
is_said One settings = not (has_numbers settings)
is_said Two settings = true

said-all : (version : Version) (all : Settings) → is_said version all ≡ true → HasAll version all
said-all One (settings.PublishSubscribe c) is = none c.sequence_numbers is
  where
    none : (b : Bool) → not b ≡ true → b ≡ false
    none true is = no is
    none false is = refl
said-all One (settings.Event c) is = tt
said-all One (settings.RequestResponse c) is = tt
said-all Two all is = tt

all-said : (version : Version) (all : Settings) → HasAll version all → is_said version all ≡ true
all-said One (settings.PublishSubscribe c) has = ap not has
all-said One (settings.Event c) has = refl
all-said One (settings.RequestResponse c) has = refl
all-said Two all has = refl

either-way : {X : Type 0} (b : Bool) (x : X) → cond b x x ≡ x
either-way true x = refl
either-way false x = refl

-- what a line can't say is as if it weren't sent
unsaid-stays : {X : Type 0} (own numbers fits : Bool) (then now : X)
    → cond (own && (not numbers && fits)) then now ≡ cond numbers now (cond (own && fits) then now)
unsaid-stays true true fits then now = refl
unsaid-stays true false fits then now = refl
unsaid-stays false true fits then now = refl
unsaid-stays false false fits then now = refl

-- ---- a segment that is another

module _ (pattern : MessagingPattern) (name : List ℕ) (old new : Contents) (taken : List ℕ) where
  abbrev under : ServiceHash
  under = service_hash_of pattern name

  module _ (life : ℕ) (agreed : Agreement) (number : ℕ) (before : Segment) (lives : life ≡ length taken)
      (falling : AreFalling old.next taken)
      (at : IsLast (λ one. one ≡ number) taken) (is : IsDescribed pattern name old agreed number)
      (stood : segment_at under number old ≡ Some before)
      (only : (n : ℕ) → is_published under n old ≡ false → segment_at under n old ≡ None) where
    -- the others have none still
    only-there : (after : Segment) (n : ℕ) → is_published under n old ≡ false
        → segment_at under n (with_segment under number after old) ≡ None
    only-there after n isnt =
        set-apart (is_at (place_cmp (under.digest, number))) (is_at (place_cmp (under.digest, n)))
        (place-apart (under.digest, number) (under.digest, n)
        (places-apart under number n (subst (λ (e : Option Entry). is_description_of n e ≡ false) is.described isnt))) old.segments after
        ∙ only n isnt

    -- other nodes are in it
    pub reopened : (nodes : List (Node × ℕ)) (after : Nodes) → NodesStand after nodes → after.max_nodes ≡ max_nodes_of agreed.settings
        → new ≡ with_segment under number (segment.Open after) old → PhaseStands pattern name new taken (Published life agreed nodes)
    reopened nodes after stand room new_is = rw new_is (record {
      lives = lives;
      falling = falling;
      lies = last-then taken at (λ (one : ℕ) (same : one ≡ number). rw same (
        record { version = is.version; said = is.said; described = is.described; kind = is.kind; within = is.within },
        record {
          seated = after;
          stands = lookup-set (is_at (place_cmp (under.digest, number))) old.segments (segment.Open after) (rw stood refl);
          nodes_stand = stand;
          room = room;
        },
      ));
      segments = only-there (segment.Open after);
    })

    -- it was emptied
    pub emptied : (by : Node) → new ≡ with_segment under number (segment.Emptied (table_node_of by)) old
        → PhaseStands pattern name new taken (Emptied life agreed by)
    emptied by new_is = rw new_is (record {
      lives = lives;
      falling = falling;
      lies = last-then taken at (λ (one : ℕ) (same : one ≡ number). rw same (
        record { version = is.version; said = is.said; described = is.described; kind = is.kind; within = is.within },
        lookup-set (is_at (place_cmp (under.digest, number))) old.segments (segment.Emptied (table_node_of by)) (rw stood refl),
      ));
      segments = only-there (segment.Emptied (table_node_of by));
    })

-- ---- what a step does

module _ (types : MessageTypeDetails) (pattern : MessagingPattern) (name : List ℕ) (old new : Contents) (taken : List ℕ) where
  abbrev hash : ServiceHash
  hash = service_hash_of pattern name

  -- what comes of a step, by the phase before and the one that the machine has then
  abbrev pub After : Result (Unit {0}) AllocError → Phase → Phase → Type 0
  After (Ok done) was now = (more : List ℕ) × PhaseStands pattern name new (more ++ taken) now
  After (Err lacking) was now = PhaseStands pattern name new taken was

  kept : (result : Result (Unit {0}) AllocError) (phase : Phase) → PhaseStands pattern name old taken phase → new ≡ old
      → After result phase phase
  kept (Ok done) phase stands is = ([], rw is stands)
  kept (Err lacking) phase stands is = rw is stands

  -- it was done, and took no number
  made : (result : Result (Unit {0}) AllocError) (was now : Phase) → result ≡ Ok tt → PhaseStands pattern name new taken now
      → After result was now
  made result was now ok stands = rw ok ([], stands)

  module _ (table : IsTable old) where
    -- nothing lies under a hash once its entry was removed
    removed-none : entry_at hash (without_entry hash old) ≡ None
    removed-none = remove-same (is_at (digest_cmp hash.digest))
        (λ x y a b. sym (digest-exact hash.digest x (equal-of _ a)) ∙ digest-exact hash.digest y (equal-of _ b)) old.entries table.keys

  -- ---- a lock

  module _ (node : ℕ) where
    abbrev LockAt : Result (Unit {0}) AllocError → Option Entry → Type 0
    LockAt result entry = DoneOrLacking (not (is_some entry) && not (nat_eq old.next (2 ^ 64 - 1)))
        (with_lock hash (table_node.Foreign node) old) old result new

    idle : {entry : Entry} (phase : Phase) (result : Result (Unit {0}) AllocError) → PhaseStands pattern name old taken phase
        → entry_at hash old ≡ Some entry → LockAt result (entry_at hash old) → After result phase phase
    idle {entry} phase result stands lies h = there result (subst (λ (e : Option Entry). LockAt result e) lies h)
      where
        there : (result : Result (Unit {0}) AllocError) → LockAt result (Some entry) → After result phase phase
        there (Ok done) h = kept (Ok done) phase stands h
        there (Err lacking) h = absurd h

    locked : (lives : ℕ) → PhaseStands pattern name old taken (Absent lives) → new ≡ with_lock hash (table_node.Foreign node) old
        → PhaseStands pattern name new (old.next ∷ taken) (BeingMade (lives + 1) (Foreign node))
    locked lives stands is = rw is (record {
      lives = omega (arith, stands.lives);
      falling = (omega arith, stands.falling);
      lies = lookup-added digest_cmp hash.digest (Locked (table_node.Foreign node) old.next) old.entries (digest-self hash.digest);
      segments = λ n isnt. stands.segments n (undescribed hash old stands.lies n refl);
    })

    locks-free : (lives : ℕ) (b : Bool) (result : Result (Unit {0}) AllocError) → b ≡ false
        → PhaseStands pattern name old taken (Absent lives)
        → DoneOrLacking (not b) (with_lock hash (table_node.Foreign node) old) old result new
        → After result (Absent lives) (BeingMade (lives + 1) (Foreign node))
    locks-free lives true result room stands h = on room
    locks-free lives false (Ok done) room stands h = (old.next ∷ [], locked lives stands h)
    locks-free lives false (Err lacking) room stands h = rw h stands

    locks : (phase : Phase) (result : Result (Unit {0}) AllocError) → old.next < 2 ^ 64 - 1 → PhaseStands pattern name old taken phase
        → LockAt result (entry_at hash old) → After result phase (acted types pattern phase (step.Lock node))
    locks (Absent lives) result room stands h =
        locks-free lives (nat_eq old.next (2 ^ 64 - 1)) result (less-apart old.next (2 ^ 64 - 1) room) stands
        (subst (λ (e : Option Entry). LockAt result e) stands.lies h)
    locks (BeingMade life by) result room stands h = idle (BeingMade life by) result stands (last taken stands.lies).1 h
    locks (Published life agreed nodes) result room stands h =
        idle (Published life agreed nodes) result stands (last taken stands.lies).1.0.described h
    locks (Emptied life agreed by) result room stands h
        = idle (Emptied life agreed by) result stands (last taken stands.lies).1.0.described h

    -- ---- a lock that is given up

    abbrev GivesUpAt : Result (Unit {0}) AllocError → Option Entry → Type 0
    GivesUpAt result entry = Done (is_some (foreign_lock node entry)) (without_entry hash old) old result new

    given-up : (table : IsTable old) (life : ℕ) (by : Node) → PhaseStands pattern name old taken (BeingMade life by)
        → new ≡ without_entry hash old
        → PhaseStands pattern name new taken (Absent life)
    given-up table life by stands is = rw is (record {
      lives = stands.lives;
      falling = stands.falling;
      lies = removed-none table;
      segments = λ n isnt. stands.segments n (undescribed hash old (last taken stands.lies).1 n refl);
    })

    gives-up : (table : IsTable old) (phase : Phase) (result : Result (Unit {0}) AllocError) → PhaseStands pattern name old taken phase
        → GivesUpAt result (entry_at hash old) → After result phase (acted types pattern phase (step.GiveUp node))
    gives-up table (Absent lives) result stands h =
        kept result (Absent lives) stands (subst (λ (e : Option Entry). GivesUpAt result e) stands.lies h).1
    gives-up table (BeingMade life (Own by)) result stands h =
        kept result (BeingMade life (Own by)) stands (subst (λ (e : Option Entry). GivesUpAt result e) (last taken stands.lies).1 h).1
    gives-up table (BeingMade life (Foreign by)) result stands h =
        there (nat_eq by node) (subst (λ (e : Option Entry). GivesUpAt result e) (last taken stands.lies).1 h)
      where
        number : ℕ
        number = (last taken stands.lies).0

        there : (b : Bool) → Done (is_some (cond b (Some number) None)) (without_entry hash old) old result new
            → After result (BeingMade life (Foreign by)) (cond b (Absent life) (BeingMade life (Foreign by)))
        there true h = made result (BeingMade life (Foreign by)) (Absent life) h.0 (given-up table life (Foreign by) stands h.1)
        there false h = kept result (BeingMade life (Foreign by)) stands h.1
    gives-up table (Published life agreed nodes) result stands h =
        kept result (Published life agreed nodes) stands
        (subst (λ (e : Option Entry). GivesUpAt result e) (last taken stands.lies).1.0.described h).1
    gives-up table (Emptied life agreed by) result stands h =
        kept result (Emptied life agreed by) stands
        (subst (λ (e : Option Entry). GivesUpAt result e) (last taken stands.lies).1.0.described h).1

    -- ---- a service that is published

    module _ (version : Version) (options : ServiceOptions) where
      abbrev described : MessagingPattern → Description
      described kind = description_of kind name (published_with types name options)

      abbrev PublishesAt : Result (Unit {0}) AllocError → Option Entry → Type 0
      PublishesAt result entry =
          PublishesForeign version (foreign_lock node entry) hash node (described (pattern_of options)) old result new

      abbrev fits : Bool
      fits =
          is_said version (settings_of types options)
          && (same_pattern (pattern_of options) pattern && are_within_limits (settings_of types options))

      -- the phase after a step that publishes a line of the version
      abbrev published_so : Phase → Phase
      published_so (BeingMade life (Foreign by)) =
          cond (nat_eq by node && fits) (Published life (published_with types name options) ((Foreign node, 1) ∷ []))
          (BeingMade life (Foreign by))
      published_so other = other

      unpublished : {entry : Entry} (phase : Phase) (result : Result (Unit {0}) AllocError) → PhaseStands pattern name old taken phase
          → entry_at hash old ≡ Some entry → foreign_lock node (Some entry) ≡ None → PublishesAt result (entry_at hash old)
          → After result phase phase
      unpublished {entry} phase result stands lies none h =
          kept result phase stands
          (subst (λ (found : Option ℕ). PublishesForeign version found hash node (described (pattern_of options)) old result new) none
          (subst (λ (e : Option Entry). PublishesAt result e) lies h)).1

      -- what is published is of the service under the hash just if the machine says that it fits
      fits-for : HasForm (described (pattern_of options)) → fits ≡ true → IsFor version hash (described (pattern_of options))
      fits-for form is =
          let said = both _ _ is in
          let split = both _ _ said.1 in
          let same : service_hash_of (pattern_of options) name ≡ hash =
          ap (λ (kind : MessagingPattern). service_hash_of kind name) (pattern-is (pattern_of options) pattern split.0) in (
            record {
              name = form.name;
              service_hash = form.service_hash;
              settings = form.settings;
              limits = limits-within types options split.1;
              attributes = form.attributes;
            },
            same,
            ap (λ (kind : MessagingPattern). service_hash_of kind name) (kind-of types options) ∙ same,
            said-all version (settings_of types options) said.0,
          )

      for-fits : OwnHash pattern name → IsFor version hash (described (pattern_of options)) → fits ≡ true
      for-fits own is =
          and-true _ _ (all-said version (settings_of types options) is.3)
          (and-true _ _ (subst (λ (kind : MessagingPattern). same_pattern kind pattern ≡ true) (sym (own (pattern_of options) is.1))
          (pattern-itself pattern))
          (limits-back (settings_of types options) is.0.limits))

      published : (life number : ℕ) (by : Node) → OwnHash pattern name → PhaseStands pattern name old taken (BeingMade life by)
          → IsFor version hash (described (pattern_of options))
          → new ≡ with_service version hash number node (described (pattern_of options)) old
          → IsLast (λ at. at ≡ number) taken
          → PhaseStands pattern name new taken (Published life (published_with types name options) ((Foreign node, 1) ∷ []))
      published life number by own stands is new_is at = rw new_is (record {
        lives = stands.lives;
        falling = stands.falling;
        lies = last-then taken at (λ (one : ℕ) (same : one ≡ number). rw same (
          record {
            version = version;
            said = is.3;
            described = lies-there
                ∙ ap (λ (kind : MessagingPattern). Some (Described number (line version (described kind)))) (own (pattern_of options) is.1);
            kind = kind-of types options ∙ own (pattern_of options) is.1;
            within = subst (λ (kind : MessagingPattern). IsWithinLimits (described kind)) (own (pattern_of options) is.1) is.0;
          },
          record {
            seated = first_foreign node (max_nodes_of (settings_of types options));
            stands = lookup-added place_cmp (hash.digest, number)
                (segment.Open (first_foreign node (max_nodes_of (settings_of types options)))) old.segments
                (same-place (hash.digest, number));
            nodes_stand = first-in node (max_nodes_of (settings_of types options));
            room = refl;
          },
        ));
        segments = λ n isnt.
            insert-apart place_cmp (hash.digest, number) (segment.Open (first_foreign node (max_nodes_of (settings_of types options))))
            (is_at (place_cmp (hash.digest, n)))
            (place-away (hash.digest, number) (hash.digest, n)
            (places-apart hash number n (subst (λ (e : Option Entry). is_description_of n e ≡ false) lies-there isnt))) place-exact
            old.segments
            ∙ stands.segments n (undescribed hash old (last taken stands.lies).1 n refl);
      })
        where
          lies-there : entry_at hash (with_service version hash number node (described (pattern_of options)) old)
              ≡ Some (Described number (line version (described (pattern_of options))))
          lies-there = lookup-set (is_at (digest_cmp hash.digest)) old.entries
              (Described number (line version (described (pattern_of options))))
              (rw (last taken stands.lies).1 refl)

      publishes : HasForm (described (pattern_of options)) → OwnHash pattern name → (phase : Phase) (result : Result (Unit {0}) AllocError)
          → PhaseStands pattern name old taken phase → PublishesAt result (entry_at hash old)
          → After result phase (published_so phase)
      publishes form own (Absent lives) result stands h =
          kept result (Absent lives) stands (subst (λ (e : Option Entry). PublishesAt result e) stands.lies h).1
      publishes form own (BeingMade life (Own by)) result stands h =
          unpublished (BeingMade life (Own by)) result stands (last taken stands.lies).1 refl h
      publishes form own (Published life agreed nodes) result stands h =
          unpublished (Published life agreed nodes) result stands (last taken stands.lies).1.0.described refl h
      publishes form own (Emptied life agreed by) result stands h =
          unpublished (Emptied life agreed by) result stands (last taken stands.lies).1.0.described refl h
      publishes form own (BeingMade life (Foreign by)) result stands h =
          there (nat_eq by node) (subst (λ (e : Option Entry). PublishesAt result e) (last taken stands.lies).1 h)
        where
          done : (b : Bool) (result : Result (Unit {0}) AllocError) → b ≡ fits
              → DoneOrLacking b (with_service version hash (last taken stands.lies).0 node (described (pattern_of options)) old)
              old result new
              → After result (BeingMade life (Foreign by))
              (cond b (Published life (published_with types name options) ((Foreign node, 1) ∷ [])) (BeingMade life (Foreign by)))
          done true (Ok happened) is h = (
            [],
            published life (last taken stands.lies).0 (Foreign by) own stands (fits-for form (sym is)) h
                (last-is _ taken stands.lies),
          )
          done true (Err lacking) is h = rw h stands
          done false (Ok happened) is h = ([], rw h stands)
          done false (Err lacking) is h = absurd h

          there : (b : Bool) → PublishesForeign version (cond b (Some (last taken stands.lies).0) None) hash node
              (described (pattern_of options)) old result new
              → After result (BeingMade life (Foreign by))
              (cond (b && fits) (Published life (published_with types name options) ((Foreign node, 1) ∷ [])) (BeingMade life (Foreign by)))
          there false h = kept result (BeingMade life (Foreign by)) stands h.1
          there true h =
              done fits result refl
              (subst (λ (b : Bool). DoneOrLacking b
              (with_service version hash (last taken stands.lies).0 node (described (pattern_of options)) old) old result new)
              (same-bool h.0 fits (λ so. for-fits own (h.1.0 so)) (λ so. h.1.1 (fits-for form so))) h.2)

    -- so it is in the machine
    said-in-two : (options : ServiceOptions) (phase : Phase)
        → published_so Two options phase ≡ acted types pattern phase (step.Publish node options)
    said-in-two options (Absent lives) = refl
    said-in-two options (BeingMade life (Own by)) = refl
    said-in-two options (BeingMade life (Foreign by)) = refl
    said-in-two options (Published life agreed nodes) = refl
    said-in-two options (Emptied life agreed by) = refl

    said-in-one : (options : ServiceOptions) (phase : Phase)
        → published_so One options phase ≡ acted types pattern phase (step.PublishV1 node options)
    said-in-one options (Absent lives) = refl
    said-in-one options (BeingMade life (Own by)) =
        sym (either-way (has_numbers (settings_of types options)) (BeingMade life (Own by)))
    said-in-one options (BeingMade life (Foreign by)) =
        unsaid-stays (nat_eq by node) (has_numbers (settings_of types options))
        (same_pattern (pattern_of options) pattern && are_within_limits (settings_of types options))
        (Published life (published_with types name options) ((Foreign node, 1) ∷ [])) (BeingMade life (Foreign by))
    said-in-one options (Published life agreed nodes) = refl
    said-in-one options (Emptied life agreed by) = refl

    -- ---- a node that comes

    abbrev RegistersBy : Result (Unit {0}) AllocError → Option Entry → Type 0
    RegistersBy result entry = RegistersForeign (published_number entry) hash node old result new

    registers-open : (life : ℕ) (agreed : Agreement) (nodes : List (Node × ℕ)) (result : Result (Unit {0}) AllocError)
        → (stands : PhaseStands pattern name old taken (Published life agreed nodes))
        → (here : (number : ℕ) × IsDescribed pattern name old agreed number × IsOpenTo pattern name old agreed nodes number)
        → IsLast (λ one. one ≡ here.0) taken
        → (after : Segment) → RegistersIn node (segment.Open here.2.seated) result after → new ≡ with_segment hash here.0 after old
        → After result (Published life agreed nodes) (acted types pattern (Published life agreed nodes) (step.Register node))
    registers-open life agreed nodes result stands here at (segment.Emptied by) h new_is = absurd h
    registers-open life agreed nodes result stands here at (segment.Open after) h new_is =
        comes (not (is_in (Foreign node) nodes) && nat_lt (length nodes) (max_nodes_of agreed.settings)) result refl
        (subst (λ (b : Bool). RegistersIf b node here.2.seated result after) (sym test) h)
      where
        test : (not (is_in (Foreign node) nodes) && nat_lt (length nodes) (max_nodes_of agreed.settings))
            ≡ (not (has_foreign node here.2.seated) && nat_lt (count_in here.2.seated) here.2.seated.max_nodes)
        test = rw (outside-in node here.2.seated nodes here.2.nodes_stand) (rw here.2.nodes_stand.many (rw here.2.room refl))

        out : (c d : Bool) → (not c && d) ≡ true → c ≡ false
        out true d is = no is
        out false d is = refl

        comes : (b : Bool) (result : Result (Unit {0}) AllocError)
            → b ≡ (not (is_in (Foreign node) nodes) && nat_lt (length nodes) (max_nodes_of agreed.settings))
            → RegistersIf b node here.2.seated result after
            → After result (Published life agreed nodes)
            (cond b (Published life agreed (entered (Foreign node) nodes)) (Published life agreed nodes))
        comes true (Ok done) is h = (
          [],
          reopened pattern name old new taken life agreed here.0 (segment.Open here.2.seated) stands.lives stands.falling at here.1
              here.2.stands stands.segments
              (entered (Foreign node) nodes) (with_foreign node here.2.seated)
              (comes-in node here.2.seated nodes here.2.nodes_stand (out _ _ (sym test ∙ sym is))) here.2.room
              (new_is ∙ ap (λ (n : Nodes). with_segment hash here.0 (segment.Open n) old) h),
        )
        comes true (Err lacking) is h =
            reopened pattern name old new taken life agreed here.0 (segment.Open here.2.seated) stands.lives stands.falling at here.1
            here.2.stands stands.segments nodes here.2.seated
            here.2.nodes_stand here.2.room (new_is ∙ ap (λ (n : Nodes). with_segment hash here.0 (segment.Open n) old) h)
        comes false (Ok done) is h = (
          [],
          reopened pattern name old new taken life agreed here.0 (segment.Open here.2.seated) stands.lives stands.falling at here.1
              here.2.stands stands.segments nodes here.2.seated
              here.2.nodes_stand here.2.room (new_is ∙ ap (λ (n : Nodes). with_segment hash here.0 (segment.Open n) old) h),
        )
        comes false (Err lacking) is h = absurd h

    registers : (phase : Phase) (result : Result (Unit {0}) AllocError) → PhaseStands pattern name old taken phase
        → RegistersBy result (entry_at hash old) → After result phase (acted types pattern phase (step.Register node))
    registers (Absent lives) result stands h =
        kept result (Absent lives) stands (subst (λ (e : Option Entry). RegistersBy result e) stands.lies h).1
    registers (BeingMade life by) result stands h =
        kept result (BeingMade life by) stands (subst (λ (e : Option Entry). RegistersBy result e) (last taken stands.lies).1 h).1
    registers (Published life agreed nodes) result stands h = there (spread (last taken stands.lies)) (last-is _ taken stands.lies)
      where
        there : (here : (number : ℕ) × IsDescribed pattern name old agreed number × IsOpenTo pattern name old agreed nodes number)
            → IsLast (λ one. one ≡ here.0) taken
            → After result (Published life agreed nodes) (acted types pattern (Published life agreed nodes) (step.Register node))
        there here at =
            let found : RegistersAt (segment_at hash here.0 old) hash here.0 node old result new =
            subst (λ (e : Option Entry). RegistersBy result e) here.1.described h in
            let standing : RegistersAt (Some (segment.Open here.2.seated)) hash here.0 node old result new =
            subst (λ (s : Option Segment). RegistersAt s hash here.0 node old result new) here.2.stands found in
            registers-open life agreed nodes result stands here at standing.0 standing.1 standing.2
    registers (Emptied life agreed by) result stands h = there (spread (last taken stands.lies)) (last-is _ taken stands.lies)
      where
        there : (here : (number : ℕ) × IsDescribed pattern name old agreed number
            × (segment_at hash number old ≡ Some (segment.Emptied (table_node_of by))))
            → IsLast (λ one. one ≡ here.0) taken → After result (Emptied life agreed by) (Emptied life agreed by)
        there here at =
            let found : RegistersAt (segment_at hash here.0 old) hash here.0 node old result new =
            subst (λ (e : Option Entry). RegistersBy result e) here.1.described h in
            let over : RegistersAt (Some (segment.Emptied (table_node_of by))) hash here.0 node old result new =
            subst (λ (s : Option Segment). RegistersAt s hash here.0 node old result new) here.2 found in
            made result (Emptied life agreed by) (Emptied life agreed by) over.1.0
            (emptied pattern name old new taken life agreed here.0 (segment.Emptied (table_node_of by)) stands.lives stands.falling at
            here.1 here.2 stands.segments by
            (over.2 ∙ ap (λ (s : Segment). with_segment hash here.0 s old) over.1.1))

    -- ---- a node that leaves

    leaves-open : (life : ℕ) (agreed : Agreement) (nodes : List (Node × ℕ))
        (stands : PhaseStands pattern name old taken (Published life agreed nodes))
        → (here : (number : ℕ) × IsDescribed pattern name old agreed number × IsOpenTo pattern name old agreed nodes number)
        → IsLast (λ one. one ≡ here.0) taken → (b : Bool) → has_foreign node here.2.seated ≡ b
        → new ≡ with_segment hash here.0 (foreign_left_if b node here.2.seated) old
        → PhaseStands pattern name new taken (left_by (Foreign node) (Published life agreed nodes))
    leaves-open life agreed nodes stands here at false is new_is =
        rw (outside-in node here.2.seated nodes here.2.nodes_stand ∙ is)
        (reopened pattern name old new taken life agreed here.0 (segment.Open here.2.seated) stands.lives stands.falling at here.1
        here.2.stands stands.segments nodes here.2.seated
        here.2.nodes_stand here.2.room new_is)
    leaves-open life agreed nodes stands here at true is new_is = goes (left (Foreign node) nodes) refl
      where
        stay : NodesStand (without_foreign node here.2.seated) (left (Foreign node) nodes)
        stay = goes-out node here.2.seated nodes here.2.nodes_stand is

        set : (b : Bool) → nat_eq (count_in (without_foreign node here.2.seated)) 0 ≡ b
            → new ≡ with_segment hash here.0 (closed_if b (table_node.Foreign node) (without_foreign node here.2.seated)) old
        set b is = subst (λ (b : Bool). new
            ≡ with_segment hash here.0 (closed_if b (table_node.Foreign node) (without_foreign node here.2.seated)) old) is new_is

        none-left : (n m : ℕ) → n ≡ m → m ≡ 0 → nat_eq n 0 ≡ true
        none-left n m is none = grind (arith, is, none)

        some-left : (n m : ℕ) → n ≡ m → 1 ≤ m → nat_eq n 0 ≡ false
        some-left n m is some = grind (arith, is, some)

        goes : (l : List (Node × ℕ)) → left (Foreign node) nodes ≡ l
            → PhaseStands pattern name new taken (left_by (Foreign node) (Published life agreed nodes))
        goes [] are = rw (outside-in node here.2.seated nodes here.2.nodes_stand ∙ is) (rw are
            (emptied pattern name old new taken life agreed here.0 (segment.Open here.2.seated) stands.lives stands.falling at here.1
            here.2.stands stands.segments (Foreign node)
            (set true (none-left (count_in (without_foreign node here.2.seated)) (length (left (Foreign node) nodes)) (sym stay.many)
            (ap (λ (l : List (Node × ℕ)). length l) are)))))
        goes (entry ∷ more) are = rw (outside-in node here.2.seated nodes here.2.nodes_stand ∙ is) (rw are
            (reopened pattern name old new taken life agreed here.0 (segment.Open here.2.seated) stands.lives stands.falling at here.1
            here.2.stands stands.segments (entry ∷ more)
            (without_foreign node here.2.seated)
            (subst (λ (l : List (Node × ℕ)). NodesStand (without_foreign node here.2.seated) l) are stay) here.2.room
            (set false (some-left (count_in (without_foreign node here.2.seated)) (length (left (Foreign node) nodes)) (sym stay.many)
            (subst (λ (l : List (Node × ℕ)). 1 ≤ length l) (sym are) (omega arith))))))

    leaves : (phase : Phase) (result : Result (Unit {0}) AllocError) → PhaseStands pattern name old taken phase → result ≡ Ok tt
        → new ≡ after_leaving (published_number (entry_at hash old)) hash node old
        → After result phase (acted types pattern phase (step.Leave node))
    leaves (Absent lives) result stands ok h =
        kept result (Absent lives) stands (subst (λ (e : Option Entry). new ≡ after_leaving (published_number e) hash node old)
        stands.lies h)
    leaves (BeingMade life by) result stands ok h =
        kept result (BeingMade life by) stands
        (subst (λ (e : Option Entry). new ≡ after_leaving (published_number e) hash node old) (last taken stands.lies).1 h)
    leaves (Published life agreed nodes) result stands ok h = there (spread (last taken stands.lies)) (last-is _ taken stands.lies)
      where
        there : (here : (number : ℕ) × IsDescribed pattern name old agreed number × IsOpenTo pattern name old agreed nodes number)
            → IsLast (λ one. one ≡ here.0) taken
            → After result (Published life agreed nodes) (left_by (Foreign node) (Published life agreed nodes))
        there here at =
            let found : new ≡ left_at (segment_at hash here.0 old) hash here.0 node old =
            subst (λ (e : Option Entry). new ≡ after_leaving (published_number e) hash node old) here.1.described h in
            let standing : new ≡ left_at (Some (segment.Open here.2.seated)) hash here.0 node old =
            subst (λ (s : Option Segment). new ≡ left_at s hash here.0 node old) here.2.stands found in
            made result (Published life agreed nodes) (left_by (Foreign node) (Published life agreed nodes)) ok
            (leaves-open life agreed nodes stands here at (has_foreign node here.2.seated) refl standing)
    leaves (Emptied life agreed by) result stands ok h = there (spread (last taken stands.lies)) (last-is _ taken stands.lies)
      where
        there : (here : (number : ℕ) × IsDescribed pattern name old agreed number
            × (segment_at hash number old ≡ Some (segment.Emptied (table_node_of by))))
            → IsLast (λ one. one ≡ here.0) taken → After result (Emptied life agreed by) (Emptied life agreed by)
        there here at =
            let found : new ≡ left_at (segment_at hash here.0 old) hash here.0 node old =
            subst (λ (e : Option Entry). new ≡ after_leaving (published_number e) hash node old) here.1.described h in
            let over : new ≡ left_at (Some (segment.Emptied (table_node_of by))) hash here.0 node old =
            subst (λ (s : Option Segment). new ≡ left_at s hash here.0 node old) here.2 found in
            made result (Emptied life agreed by) (Emptied life agreed by) ok
            (emptied pattern name old new taken life agreed here.0 (segment.Emptied (table_node_of by)) stands.lives stands.falling at
            here.1 here.2 stands.segments by over)

    -- ---- a service that is removed

    removed : (table : IsTable old) (life : ℕ) (agreed : Agreement) (by : Node) (number : ℕ)
        → {bytes : List ℕ} → entry_at hash old ≡ Some (Described number bytes)
        → PhaseStands pattern name old taken (Emptied life agreed by)
        → new ≡ without_segment hash number (without_entry hash old) → PhaseStands pattern name new taken (Absent life)
    removed table life agreed by number at stands is = rw is (record {
      lives = stands.lives;
      falling = stands.falling;
      lies = removed-none table;
      segments = λ n isnt. by_test (nat_eq number n)
          (λ same. subst (λ (m : ℕ). segment_at hash m (without_segment hash number old) ≡ None) (eqb-true number n same)
          (segment-gone hash number old table))
          (λ differ. remove-apart (is_at (place_cmp (hash.digest, number))) (is_at (place_cmp (hash.digest, n)))
          (place-apart (hash.digest, number) (hash.digest, n) (places-apart hash number n differ)) old.segments
          ∙ stands.segments n (undescribed hash old at n differ));
    })

    removes : (table : IsTable old) (phase : Phase) (result : Result (Unit {0}) AllocError) → PhaseStands pattern name old taken phase
        → result ≡ Ok tt
        → new ≡ after_removal (published_number (entry_at hash old)) hash node old
        → After result phase (acted types pattern phase (step.Remove node))
    removes table (Absent lives) result stands ok h =
        kept result (Absent lives) stands (subst (λ (e : Option Entry). new ≡ after_removal (published_number e) hash node old)
        stands.lies h)
    removes table (BeingMade life by) result stands ok h =
        kept result (BeingMade life by) stands
        (subst (λ (e : Option Entry). new ≡ after_removal (published_number e) hash node old) (last taken stands.lies).1 h)
    removes table (Published life agreed nodes) result stands ok h =
        let here : (number : ℕ) × IsDescribed pattern name old agreed number
        × IsOpenTo pattern name old agreed nodes number = spread (last taken stands.lies) in
        let found : new ≡ after_removal (Some here.0) hash node old =
        subst (λ (e : Option Entry). new ≡ after_removal (published_number e) hash node old) here.1.described h in
        kept result (Published life agreed nodes) stands
        (subst (λ (s : Option Segment). new ≡ cond (is_left_by node s) (without_segment hash here.0 (without_entry hash old)) old)
        here.2.stands found)
    removes table (Emptied life agreed by) result stands ok h =
        let here : (number : ℕ) × IsDescribed pattern name old agreed number
        × (segment_at hash number old ≡ Some (segment.Emptied (table_node_of by))) =
        spread (last taken stands.lies) in
        let found : new ≡ after_removal (Some here.0) hash node old =
        subst (λ (e : Option Entry). new ≡ after_removal (published_number e) hash node old) here.1.described h in
        whose by here.0 here.1.described stands
        (subst (λ (s : Option Segment). new ≡ cond (is_left_by node s) (without_segment hash here.0 (without_entry hash old)) old)
        here.2 found)
      where
        there : (by number : ℕ) (b : Bool) → {bytes : List ℕ} → entry_at hash old ≡ Some (Described number bytes)
            → PhaseStands pattern name old taken (Emptied life agreed (Foreign by))
            → new ≡ cond b (without_segment hash number (without_entry hash old)) old
            → After result (Emptied life agreed (Foreign by)) (cond b (Absent life) (Emptied life agreed (Foreign by)))
        there by number true at stands h =
            made result (Emptied life agreed (Foreign by)) (Absent life) ok (removed table life agreed (Foreign by) number at stands h)
        there by number false at stands h = kept result (Emptied life agreed (Foreign by)) stands h

        whose : (by : Node) (number : ℕ) → {bytes : List ℕ} → entry_at hash old ≡ Some (Described number bytes)
            → PhaseStands pattern name old taken (Emptied life agreed by)
            → new ≡ cond (is_left_by node (Some (segment.Emptied (table_node_of by))))
            (without_segment hash number (without_entry hash old)) old
            → After result (Emptied life agreed by) (removed_by (Foreign node) (Emptied life agreed by))
        whose (Own by) number at stands h = kept result (Emptied life agreed (Own by)) stands h
        whose (Foreign by) number at stands h = there by number (nat_eq by node) at stands h

  -- what a step does under its hash is what the machine says of the phase
  pub acts-there : (named : ForeignStep) (phase : Phase) (result : Result (Unit {0}) AllocError) → IsTable old
      → HasStepForm types name named
      → OwnHash pattern name → old.next < 2 ^ 64 - 1 → PhaseStands pattern name old taken phase
      → Acts hash (table_step_of types name named) old result new → After result phase (acted types pattern phase named)
  acts-there (step.Lock node) phase result table form own room stands h = locks node phase result room stands h
  acts-there (step.GiveUp node) phase result table form own room stands h = gives-up node table phase result stands h
  acts-there (step.Publish node options) phase result table form own room stands h =
      subst (After result phase) (said-in-two node options phase) (publishes node Two options form own phase result stands h)
  acts-there (step.PublishV1 node options) phase result table form own room stands h =
      subst (After result phase) (said-in-one node options phase) (publishes node One options form own phase result stands h)
  acts-there (step.Register node) phase result table form own room stands h = registers node phase result stands h
  acts-there (step.Leave node) phase result table form own room stands h = leaves node phase result stands h.0 h.1
  acts-there (step.Remove node) phase result table form own room stands h = removes node table phase result stands h.0 h.1
