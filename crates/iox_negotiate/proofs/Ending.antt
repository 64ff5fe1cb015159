-- The end of a call that succeeds: a lookup and an opening, or a segment and a publication. Its factory is then among the open ones.
use Rattle.std.proofs.Common.{◌≡◌, ℕ, List, [], ◌∷◌, ◌++◌, Option, None, Some, Result, Ok, Err, refl, sym, ap, subst, inl, inr}
use Rattle.std.specs.declared.alloc.AllocError.{AllocError}
use Rattle.std.proofs.Math.Logic.{⊎_elim}
use Rattle.iox_negotiate_table.specs.DescribeBase.declared.hash.ServiceHash.{ServiceHash}
use Rattle.iox_negotiate_table.specs.DescribeSettings.Agreement.{Agreement, max_nodes_of}
use Rattle.iox_negotiate_table.specs.Describe.Line.{line, Spells}
use Rattle.iox_negotiate_table.specs.DescribeSettings.declared.description.Version.TheVariants.{Two}
use Rattle.iox_negotiate_table.specs.NegotiateBase.Access.{Access, Look, MakeSegment, Publish, OpenSegment}
use Rattle.iox_negotiate_table.specs.NegotiateBase.Creating.{CreatesIf}
use Rattle.iox_negotiate_table.specs.NegotiateBase.Failing.{opened, entered, created, created_or_again, opened_or_again}
use Rattle.iox_negotiate_table.specs.NegotiateBase.Opening.{Registers, OpensJudged, OpensSeen, OpenRound, Opens, EitherCreates}
use Rattle.iox_negotiate_table.specs.NegotiateBase.Opening.{EitherSeen, EitherRound, OpensOrCreates}
use Rattle.iox_negotiate_table.specs.NegotiateBase.Runs.{Went, Rounds}
use Rattle.iox_negotiate_table.specs.NegotiateBase.Describing.{Describes}
use Rattle.iox_negotiate_table.specs.NegotiateBase.Sight.{IsSight}
use Rattle.iox_negotiate_table.specs.NegotiateBase.declared.answer.LookAnswer.{LookAnswer}
use Rattle.iox_negotiate_table.specs.NegotiateBase.declared.answer.LookAnswer.TheVariants as look
use Rattle.iox_negotiate_table.specs.NegotiateBase.declared.answer.OpenSegmentAnswer.{OpenSegmentAnswer}
use Rattle.iox_negotiate_table.specs.NegotiateBase.declared.answer.OpenSegmentAnswer.TheVariants as opening
use Rattle.iox_negotiate_table.specs.NegotiateBase.declared.answer.MakeSegmentAnswer.TheVariants as making
use Rattle.iox_negotiate_table.specs.NegotiateBase.declared.answer.PublishAnswer.TheVariants as publishing
use Rattle.iox_negotiate_table.specs.NegotiateBase.declared.creation.Attempt.{Attempt}
use Rattle.iox_negotiate_table.specs.NegotiateBase.declared.creation.Attempt.TheVariants as attempt
use Rattle.iox_negotiate_table.specs.NegotiateBase.declared.failure.CreateFailure.{CreateFailure}
use Rattle.iox_negotiate_table.specs.NegotiateBase.declared.failure.OpenFailure.{OpenFailure}
use Rattle.iox_negotiate_table.specs.NegotiateBase.declared.request.Opened.{Opened}
use Rattle.iox_negotiate_table.specs.NegotiateBase.declared.sight.Sight.{Sight as Shown}
use Rattle.iox_negotiate_table.specs.NegotiateBase.declared.sight.Sight.TheVariants as sight
use Rattle.iox_negotiate_table.proofs.NegotiateBase.Counting.{creates-service}
use Rattle.iox_negotiate_table.specs.declared.entry.Entry.{Entry}
use Rattle.iox_negotiate_table.specs.declared.entry.Entry.TheVariants.{Locked, Described}
use Rattle.iox_negotiate_table.specs.declared.step.ForeignStep.{ForeignStep}
use Rattle.iox_negotiate_table.specs.Contents.{Contents, entry_at}
use Rattle.iox_negotiate_table.specs.Foreign.{Acts}
use Rattle.iox_negotiate_table.specs.Sights.{Sight, Looks}
use Rattle.iox_negotiate_table.specs.Stepped.{Steps, next_list, SteppedSight}
use Rattle.iox_negotiate_table.proofs.Opening.{opened-is-open}
use Rattle.iox_negotiate.specs.Factories.{Factory, AllStand}
use Rattle.iox_negotiate.specs.Calls.{factory_of}
use Rattle.iox_negotiate.proofs.Tables.{IsTable, sees, acts, has-few}
use Rattle.iox_negotiate.proofs.Lives.{one-life-of}
use Rattle.iox_negotiate.proofs.Standing.{Quiet, steps-stand, quiet-stand, opening-stand, IsMaking, made-making, publishing-stand}
use Rattle.iox_negotiate.proofs.Stepping.{acts-keep, stepped-keeps, Seen, seen, acts-ran, acts-idle, AllQuiet, quiet-front, went-split}
use Rattle.iox_negotiate.proofs.Stepping.{quiet-keeps}
use Rattle.iox_negotiate.proofs.Quiet.{creates-quiet, round-quiet, either-quiet, led-quiet}

-- the table is as tables are, and each open factory stands
pub record World (all : List Factory) (table : Contents) : Type 0 where
  pub is : IsTable table
  pub stand : AllStand all table

pub world-step : (all : List Factory) (hash : ServiceHash) (step : ForeignStep) (result : Result (Unit {0}) AllocError)
    (old new : Contents) → World all old → Acts hash step old result new → World all new
world-step all hash step result old new w h
    = record { is = acts old new w.is hash step result h; stand = steps-stand all old new hash step result w.stand h }

pub world-access : (all : List Factory) (access : Access) (old new : Contents) → Quiet access → World all old → Sight old access new
    → World all new
world-access all access old new quiet w h
    = record { is = sees old new w.is access h; stand = quiet-stand all old new access quiet w.stand h }

pub world-quiet : (all : List Factory) (made : List Access) (old new : Steps) → AllQuiet made → World all old.table
    → Went SteppedSight old made new → World all new.table
world-quiet all made old new quiet w went = quiet-keeps (λ t. World all t) (world-step all) (world-access all) made old new quiet w went

world-stepped : (all : List Factory) (access : Access) (old new : Steps) → Quiet access → World all old.table
    → SteppedSight old access new → World all new.table
world-stepped all access old new quiet w h
    = stepped-keeps (λ t. World all t) (world-step all) (λ a. Quiet a) (world-access all) access old new quiet w h

-- ---- a look and an opening

found-of : (number : ℕ) (bytes : List ℕ) (entry : Option Entry) → Looks entry (look.Found number bytes)
    → entry ≡ Some (Described number bytes)
found-of number bytes None h = absurd (differ h)
  where
    differ : look.Found number bytes ≡ look.Absent → ⊥
    differ e = cc
found-of number bytes (Some (Locked by at)) h = absurd (differ h)
  where
    differ : look.Found number bytes ≡ look.Locked → ⊥
    differ e = cc
found-of number bytes (Some (Described at text)) (inl h) = same h
  where
    same : look.Found number bytes ≡ look.Found at text → Some (Described at text) ≡ Some (Described number bytes)
    same e = cc
found-of number bytes (Some (Described at text)) (inr h) = absurd (differ h)
  where
    differ : look.Found number bytes ≡ look.OutOfMemory → ⊥
    differ e = cc

found-not-lacking : (number : ℕ) (bytes : List ℕ) → look.Found number bytes ≡ look.OutOfMemory → ⊥
found-not-lacking number bytes e = cc

pub registered-not-lacking : opening.Registered ≡ opening.OutOfMemory → ⊥
registered-not-lacking e = cc

pub made-not-lacking : making.Made ≡ making.OutOfMemory → ⊥
made-not-lacking e = cc

pub published-not-lacking : publishing.Published ≡ publishing.OutOfMemory → ⊥
published-not-lacking e = cc

module _ (all : List Factory) (number node : ℕ) (agreed : Agreement) (old new : Steps) (w : World all old.table) where
  -- the hash is that of what was agreed
  abbrev hash : ServiceHash
  hash = agreed.service_hash

  abbrev joining : Factory
  joining = record { number = number; node = node; agreed = agreed }

  pub opening-ends : (bytes : List ℕ) → Spells bytes agreed
      → Went SteppedSight old (Look agreed.service_hash (look.Found number bytes)
      ∷ OpenSegment agreed.service_hash number node opening.Registered ∷ []) new
      → World (record { number = number; node = node; agreed = agreed } ∷ all) new.table
  opening-ends bytes spelled (first, looked, (second, opens, end))
      = subst (λ s. World (joining ∷ all) s.table) (sym end) (record { is = after; stand = stands })
    where
      l : Seen hash (Look hash (look.Found number bytes)) old first
      l = seen hash (Look hash (look.Found number bytes)) _ old first (found-not-lacking number bytes) looked

      w1 : World all first.table
      w1 = world-stepped all (Look hash (look.Found number bytes)) old first tt w looked

      read : entry_at hash first.table ≡ Some (Described number bytes)
      read = subst (λ t. entry_at hash t ≡ Some (Described number bytes)) (sym l.sight.1)
          (found-of number bytes (entry_at hash l.mid) l.sight.0)

      o : Seen hash (OpenSegment hash number node opening.Registered) first second
      o = seen hash (OpenSegment hash number node opening.Registered) _ first second registered-not-lacking opens

      w2 : World all o.mid
      w2 = acts-keep (λ t. World all t) (world-step all) hash (next_list first.lists) first.table o.mid o.happened w1 o.acts

      after : IsTable second.table
      after = sees o.mid second.table w2.is (OpenSegment hash number node opening.Registered) o.sight

      stands : AllStand (joining ∷ all) second.table
      stands =
          let found = opened-is-open hash number node o.mid second.table (has-few o.mid hash number w2.is) o.sight in
          let past = acts-ran hash (next_list first.lists) first.table o.mid o.happened o.acts in
          let same : found.0 ≡ bytes = (one-life-of first.table o.mid past.events hash hash (Described number bytes)
          (Described number found.0) w1.is past.ran read found.1 refl).1 in
          opening-stand all joining bytes o.mid second.table spelled w2.is after w2.stand
          (subst (λ b. entry_at hash o.mid ≡ Some (Described number b)) same found.1) o.sight

  pub creation-ends : (max_nodes : ℕ)
      → Went SteppedSight old (MakeSegment agreed.service_hash number node max_nodes making.Made
      ∷ Publish agreed.service_hash number (line Two agreed) publishing.Published ∷ []) new
      → World (record { number = number; node = node; agreed = agreed } ∷ all) new.table
  creation-ends max_nodes (first, made, (second, published, end))
      = subst (λ s. World (joining ∷ all) s.table) (sym end) (record { is = after; stand = stands })
    where
      m : Seen hash (MakeSegment hash number node max_nodes making.Made) old first
      m = seen hash (MakeSegment hash number node max_nodes making.Made) _ old first made-not-lacking made

      w1 : World all first.table
      w1 = world-stepped all (MakeSegment hash number node max_nodes making.Made) old first tt w made

      making-it : IsMaking hash number node first.table
      making-it = made-making hash number node max_nodes m.mid first.table m.sight

      p : Seen hash (Publish hash number (line Two agreed) publishing.Published) first second
      p = seen hash (Publish hash number (line Two agreed) publishing.Published) _ first second published-not-lacking published

      sight-there : Sight first.table (Publish hash number (line Two agreed) publishing.Published) second.table
      sight-there = subst (λ t. Sight t (Publish hash number (line Two agreed) publishing.Published) second.table)
          (acts-idle hash node number (next_list first.lists) first.table p.mid p.happened making-it.locked p.acts) p.sight

      after : IsTable second.table
      after = sees first.table second.table w1.is (Publish hash number (line Two agreed) publishing.Published) sight-there

      stands : AllStand (joining ∷ all) second.table
      stands = publishing-stand all joining first.table second.table w1.is after w1.stand making-it sight-there

-- ---- which storage operations they are

pub not-some-err : {E : Type 0} (service : Opened) (failure : E) → Some (Ok service) ≡ Some (Err failure) → ⊥
not-some-err service failure h = cc

abbrev answered : (E : Type 0) → Opened → Option (Result Opened E)
answered E service = Some (Ok service)

not-none : {E : Type 0} (service : Opened) → answered E service ≡ None → ⊥
not-none service h = cc

pub not-ok-err : {E : Type 0} (service : Opened) (failure : E) → Ok service ≡ Err failure → ⊥
not-ok-err service failure h = cc

same-service : {E : Type 0} (one other : Opened) → answered E one ≡ answered E other → one ≡ other
same-service one other h = cc

-- what was read
pub record Read (hash : ServiceHash) (answer : LookAnswer) (number : ℕ) (agreed : Agreement) : Type 0 where
  pub bytes : List ℕ
  pub is : answer ≡ look.Found number bytes
  pub describes : Describes hash bytes agreed

pub read-of : (hash : ServiceHash) (answer : LookAnswer) (number : ℕ) (agreed : Agreement)
    → IsSight hash answer (sight.Standing number agreed) → Read hash answer number agreed
read-of hash look.Absent number agreed h = absurd (differ h)
  where
    differ : sight.Standing number agreed ≡ sight.Absent → ⊥
    differ e = cc
read-of hash (look.Found from bytes) number agreed h
    = record { bytes = bytes; is = ap (λ n. look.Found n bytes) (sym h.0); describes = h.1 }
read-of hash look.Locked number agreed h = absurd (differ h)
  where
    differ : {f : _} → sight.Standing number agreed ≡ sight.Failed f → ⊥
    differ e = cc
read-of hash look.Denied number agreed h = absurd (differ h)
  where
    differ : {f : _} → sight.Standing number agreed ≡ sight.Failed f → ⊥
    differ e = cc
read-of hash look.Broken number agreed h = absurd (differ h)
  where
    differ : {f : _} → sight.Standing number agreed ≡ sight.Failed f → ⊥
    differ e = cc
read-of hash look.OutOfMemory number agreed h = absurd (differ h)
  where
    differ : {f : _} → sight.Standing number agreed ≡ sight.Failed f → ⊥
    differ e = cc

module _ {V : Type 0} (hash : ServiceHash) (node : ℕ) (verdict : Agreement → Result (Unit {0}) V) where
  -- the segment was opened, and nothing else was done
  pub record Entered (number : ℕ) (agreed : Agreement) (made : List Access) (service : Opened) : Type 0 where
    pub is : service ≡ opened number agreed
    pub list : made ≡ OpenSegment hash number node opening.Registered ∷ []

  entered-of : (number : ℕ) (agreed : Agreement) (answer : OpenSegmentAnswer) (service : Opened)
      → Some (Ok service) ≡ entered {V = V} number agreed answer → (answer ≡ opening.Registered) × (service ≡ opened number agreed)
  entered-of number agreed opening.Registered service h = (refl, same-service service (opened number agreed) h)
  entered-of number agreed opening.Absent service h = absurd (not-none service h)
  entered-of number agreed opening.Marked service h = absurd (not-some-err service _ h)
  entered-of number agreed opening.Full service h = absurd (not-some-err service _ h)
  entered-of number agreed opening.Denied service h = absurd (not-some-err service _ h)
  entered-of number agreed opening.Fault service h = absurd (not-some-err service _ h)
  entered-of number agreed opening.OutOfMemory service h = absurd (not-some-err service _ h)

  registers-of : (number : ℕ) (agreed : Agreement) (made : List Access) (service : Opened)
      → Registers hash node verdict number agreed made (Some (Ok service)) → Entered number agreed made service
  registers-of number agreed (OpenSegment under of by answer ∷ rest) service (own, same, who, none, is) =
      let e = entered-of number agreed answer service is in
      record { is = e.1; list = let registered : answer ≡ opening.Registered = e.0 in cc }
  registers-of number agreed made service h = absurd h

  pub judged-of : (number : ℕ) (agreed : Agreement) (judged : Result (Unit {0}) V) (made : List Access) (service : Opened)
      → OpensJudged hash node verdict number agreed judged made (Some (Ok service)) → Entered number agreed made service
  judged-of number agreed (Ok met) made service h = registers-of number agreed made service h
  judged-of number agreed (Err unmet) made service h = absurd (not-some-err service _ h.1)

  module _ (all : List Factory) (old new : Steps) (w : World all old.table) where
    standing-ends : (answer : LookAnswer) (number : ℕ) (agreed : Agreement) (rest : List Access) (service : Opened)
        → IsSight hash answer (sight.Standing number agreed)
        → OpensJudged hash node verdict number agreed (verdict agreed) rest (Some (Ok service))
        → Went SteppedSight old (Look hash answer ∷ rest) new → World (factory_of node service ∷ all) new.table
    standing-ends answer number agreed rest service shown judged went =
        let r = read-of hash answer number agreed shown in
        let e = judged-of number agreed (verdict agreed) rest service judged in
        let list : Look hash answer ∷ rest ≡ Look hash (look.Found number r.bytes) ∷ OpenSegment hash number node opening.Registered
        ∷ [] = lists r.bytes r.is e.list in
        let moved = subst (λ m. Went SteppedSight old m new) list went in
        let there = subst (λ h. Went SteppedSight old
        (Look h (look.Found number r.bytes) ∷ OpenSegment h number node opening.Registered ∷ []) new) (sym r.describes.own) moved in
        subst (λ s. World (factory_of node s ∷ all) new.table) (sym e.is)
        (opening-ends all number node agreed old new w r.bytes r.describes.spelled there)
      where
        lists : (bytes : List ℕ) → answer ≡ look.Found number bytes → rest ≡ OpenSegment hash number node opening.Registered ∷ []
            → Look hash answer ∷ rest ≡ Look hash (look.Found number bytes) ∷ OpenSegment hash number node opening.Registered ∷ []
        lists bytes a b = cc

    seen-ends : (answer : LookAnswer) (shown : Shown) (rest : List Access) (service : Opened) → IsSight hash answer shown
        → OpensSeen hash node verdict shown rest (Some (Ok service))
        → Went SteppedSight old (Look hash answer ∷ rest) new → World (factory_of node service ∷ all) new.table
    seen-ends answer sight.Absent rest service is h went = absurd (not-some-err service _ h.1)
    seen-ends answer (sight.Standing number agreed) rest service is h went = standing-ends answer number agreed rest service is h went
    seen-ends answer (sight.Failed failure) rest service is h went = absurd (not-some-err service _ h.1)

    round-ends : (made : List Access) (service : Opened) → OpenRound hash node verdict made (Some (Ok service))
        → Went SteppedSight old made new → World (factory_of node service ∷ all) new.table
    round-ends (Look under answer ∷ rest) service h went
        = seen-ends answer h.0 rest service h.2 h.3 (subst (λ u. Went SteppedSight old (Look u answer ∷ rest) new) h.1 went)
    round-ends made service h went = absurd h

-- ---- creations

module _ (all : List Factory) (node : ℕ) (agreed : Agreement) (old new : Steps) (w : World all old.table) where
  -- storage operations that end with the publication
  tail-ends : (made front : List Access) (service : Opened) → AllQuiet made → service.description ≡ agreed
      → made ≡ front ++ (MakeSegment agreed.service_hash service.number node (max_nodes_of agreed.settings) making.Made
      ∷ Publish agreed.service_hash service.number (line Two agreed) publishing.Published ∷ [])
      → Went SteppedSight old made new → World (factory_of node service ∷ all) new.table
  tail-ends made front service quiet agrees list went =
      let tail : List Access = MakeSegment agreed.service_hash service.number node (max_nodes_of agreed.settings) making.Made
      ∷ Publish agreed.service_hash service.number (line Two agreed) publishing.Published ∷ [] in
      let split = went-split SteppedSight front tail old new (subst (λ m. Went SteppedSight old m new) list went) in
      let calm = quiet-front front tail (subst (λ m. AllQuiet m) list quiet) in
      let before = world-quiet all front old split.0 calm w split.1 in
      subst (λ a. World (record { number = service.number; node = node; agreed = a } ∷ all) new.table) (sym agrees)
      (creation-ends all service.number node agreed split.0 new before (max_nodes_of agreed.settings) split.2)

  pub creates-ends : (refusal : Option CreateFailure) (made : List Access) (service : Opened)
      → CreatesIf agreed.service_hash node agreed refusal made (Ok service)
      → Went SteppedSight old made new → World (factory_of node service ∷ all) new.table
  creates-ends refusal made service creates went =
      let c = creates-service agreed.service_hash node agreed refusal made service creates in
      tail-ends made c.0 service (creates-quiet agreed.service_hash node agreed refusal made (Ok service) creates) c.1 c.2 went

-- ---- rounds

module _ {R : Type 0} (round : List Access → Option R → Type 0)
    (quiet : (made : List Access) (result : Option R) → round made result → AllQuiet made) (all more : List Factory) (result exhausted : R)
    (other : result ≡ exhausted → ⊥) (ends : (made : List Access) (old new : Steps) → World all old.table → round made (Some result)
    → Went SteppedSight old made new → World more new.table) where
  rounds-end : (made : List Access) (old new : Steps) → World all old.table → Rounds round exhausted made result
      → Went SteppedSight old made new → World more new.table
  rounds-end made old new w r went =
      let split = went-split SteppedSight r.before r.last old new (subst (λ m. Went SteppedSight old m new) r.all went) in
      let mid = world-quiet all r.before old split.0 (led-quiet round quiet r.count r.before r.led) w split.1 in
      ⊎_elim (λ ending. ends r.last split.0 new mid ending.1 split.2) (λ ending. absurd (other ending.2)) r.ends

pub opens-ends : {V : Type 0} (hash : ServiceHash) (node : ℕ) (verdict : Agreement → Result (Unit {0}) V) (all : List Factory)
    (made : List Access) (service : Opened) (old new : Steps) → World all old.table
    → Opens hash node verdict made (Ok service) → Went SteppedSight old made new → World (factory_of node service ∷ all) new.table
opens-ends hash node verdict all made service old new w opens went =
    rounds-end (OpenRound hash node verdict) (round-quiet hash node verdict) all (factory_of node service ∷ all) (Ok service) _
    (λ h. not-ok-err service _ h)
    (λ last mid end v r g. round-ends hash node verdict all mid end v last service r g) made old new w opens went

pub passed-on : {V : Type 0} (answer : Option (Result Opened (OpenFailure V))) (service : Opened)
    → Some (Ok service) ≡ opened_or_again answer → answer ≡ Some (Ok service)
passed-on None service h = absurd (not-none service h)
passed-on (Some (Ok other)) service h = ap (λ s. Some (Ok s)) (sym (same-service service other h))
passed-on (Some (Err failure)) service h = absurd (not-some-err service _ h)

pub created-is : {V : Type 0} (came : Attempt) (service : Opened) → Some (Ok service) ≡ created_or_again {V = V} came
    → Ok service ≡ created came
created-is (attempt.Made made) service h = ap (λ s. Ok s) (same-service service made h)
created-is attempt.IsLocked service h = absurd (not-none service h)
created-is attempt.Exists service h = absurd (not-none service h)
created-is (attempt.Failed failure) service h = absurd (not-some-err service _ h)

-- without the look before it
without-look : (hash under : ServiceHash) (answer : LookAnswer) (number node room : ℕ) (bytes : List ℕ) (rest front : List Access)
    → Look hash answer ∷ rest ≡ front ++
    (MakeSegment under number node room making.Made ∷ Publish under number bytes publishing.Published ∷ [])
    → (less : List Access) × (rest ≡ less
    ++ (MakeSegment under number node room making.Made ∷ Publish under number bytes publishing.Published ∷ []))
without-look hash under answer number node room bytes rest [] h = absurd (differ h)
  where
    differ : Look hash answer ∷ rest ≡ MakeSegment under number node room making.Made ∷ Publish under number bytes publishing.Published
        ∷ [] → ⊥
    differ e = cc
without-look hash under answer number node room bytes rest (access ∷ front) h = (front, same h)
  where
    same : Look hash answer ∷ rest ≡ access
        ∷ (front ++ (MakeSegment under number node room making.Made ∷ Publish under number bytes publishing.Published ∷ []))
        → rest ≡ front ++ (MakeSegment under number node room making.Made ∷ Publish under number bytes publishing.Published ∷ [])
    same e = cc

module _ {V : Type 0} (node : ℕ) (verdict : Agreement → Result (Unit {0}) V) (agreed : Agreement) (refusal : Option CreateFailure)
    (all : List Factory) (old new : Steps) (w : World all old.table) where
  either-creates-ends : (answer : LookAnswer) (refused : Option CreateFailure) (rest : List Access) (service : Opened)
      → EitherCreates agreed.service_hash node verdict agreed refusal refused rest (Some (Ok service))
      → AllQuiet (Look agreed.service_hash answer ∷ rest) → Went SteppedSight old (Look agreed.service_hash answer ∷ rest) new
      → World (factory_of node service ∷ all) new.table
  either-creates-ends answer (Some failure) rest service h quiet went = absurd (not-some-err service _ h.1)
  either-creates-ends answer None rest service h quiet went =
      let c = creates-service agreed.service_hash node agreed None (Look agreed.service_hash look.Absent ∷ rest) service
      (sight.Absent, h.0, refl, refl, h.1, created-is h.0 service h.2) in
      let less = without-look agreed.service_hash agreed.service_hash look.Absent service.number node (max_nodes_of agreed.settings)
      (line Two agreed) rest c.0 c.2 in
      tail-ends all node agreed old new w (Look agreed.service_hash answer ∷ rest) (Look agreed.service_hash answer ∷ less.0) service
      quiet c.1 (ap (λ r. Look agreed.service_hash answer ∷ r) less.1) went

  either-seen-ends : (answer : LookAnswer) (shown : Shown) (rest : List Access) (service : Opened)
      → IsSight agreed.service_hash answer shown
      → EitherSeen agreed.service_hash node verdict agreed refusal shown rest (Some (Ok service))
      → AllQuiet (Look agreed.service_hash answer ∷ rest)
      → Went SteppedSight old (Look agreed.service_hash answer ∷ rest) new → World (factory_of node service ∷ all) new.table
  either-seen-ends answer sight.Absent rest service is h quiet went = either-creates-ends answer refusal rest service h quiet went
  either-seen-ends answer (sight.Standing number other) rest service is (came, judged, passed) quiet went =
      standing-ends agreed.service_hash node verdict all old new w answer number other rest service is
      (subst (λ a. OpensJudged agreed.service_hash node verdict number other (verdict other) rest a) (passed-on came service passed)
      judged) went
  either-seen-ends answer (sight.Failed failure) rest service is h quiet went = absurd (not-some-err service _ h.1)

  either-round-ends : (made : List Access) (service : Opened)
      → EitherRound agreed.service_hash node verdict agreed refusal made (Some (Ok service)) → Went SteppedSight old made new
      → World (factory_of node service ∷ all) new.table
  either-round-ends (Look under answer ∷ rest) service h went =
      let quiet = either-quiet agreed.service_hash node verdict agreed refusal (Look under answer ∷ rest) (Some (Ok service)) h in
      either-seen-ends answer h.0 rest service h.2 h.3 (subst (λ u. AllQuiet (Look u answer ∷ rest)) h.1 quiet)
      (subst (λ u. Went SteppedSight old (Look u answer ∷ rest) new) h.1 went)
  either-round-ends made service h went = absurd h

pub either-ends : {V : Type 0} (node : ℕ) (verdict : Agreement → Result (Unit {0}) V) (agreed : Agreement)
    (refusal : Option CreateFailure) (all : List Factory) (made : List Access) (service : Opened) (old new : Steps)
    → World all old.table → OpensOrCreates agreed.service_hash node verdict agreed refusal made (Ok service)
    → Went SteppedSight old made new → World (factory_of node service ∷ all) new.table
either-ends node verdict agreed refusal all made service old new w either went =
    rounds-end (EitherRound agreed.service_hash node verdict agreed refusal)
    (either-quiet agreed.service_hash node verdict agreed refusal) all (factory_of node service ∷ all) (Ok service) _
    (λ h. not-ok-err service _ h)
    (λ last mid end v r g. either-round-ends node verdict agreed refusal all mid end v last service r g) made old new w either went
