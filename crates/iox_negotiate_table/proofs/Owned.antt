-- What a foreign node gives up or removes is its own.
use Rattle.std.proofs.Common.{◌≡◌, ℕ, Bool, true, false, cond, List, Option, None, Some, is_some, Result, Ok, nat_eq, refl, arith}
use Rattle.std.specs.declared.alloc.AllocError.{AllocError}
use Rattle.iox_negotiate_base.specs.DescribeBase.declared.hash.ServiceHash.{ServiceHash}
use Rattle.iox_negotiate_table.specs.declared.node.Node.TheVariants.{Own, Foreign}
use Rattle.iox_negotiate_table.specs.declared.entry.Entry.{Entry}
use Rattle.iox_negotiate_table.specs.declared.entry.Entry.TheVariants.{Locked, Described}
use Rattle.iox_negotiate_table.specs.declared.segment.Segment.{Segment}
use Rattle.iox_negotiate_table.specs.declared.segment.Segment.TheVariants as segment
use Rattle.iox_negotiate_table.specs.Contents.{Contents, entry_at, segment_at, without_entry, without_segment}
use Rattle.iox_negotiate_table.specs.Foreign.{Done, foreign_lock, published_number, after_removal, is_left_by}
use Rattle.iox_negotiate_table.specs.Phases.{Phase, BeingMade, Emptied, phase_by, described_phase, GivesUpItsOwn, RemovesItsOwn}

module _ (hash : ServiceHash) (node : ℕ) (old new : Contents) where
  segments : ℕ → Option Segment
  segments number = segment_at hash number old

  -- the step of a lock, by the entry
  abbrev GivesUpAt : Result (Unit {0}) AllocError → Option Entry → Type 0
  GivesUpAt result entry =
      (result ≡ Ok tt)
      × ((number : ℕ) → phase_by entry (λ number. segment_at hash number old) ≡ BeingMade (Foreign node) number
      → new ≡ without_entry hash old)
      × (((number : ℕ) → phase_by entry (λ number. segment_at hash number old) ≡ BeingMade (Foreign node) number → ⊥) → new ≡ old)

  gives-foreign : (result : Result (Unit {0}) AllocError) (by number : ℕ) (b : Bool) → nat_eq by node ≡ b
      → Done (is_some (cond b (Some number) None)) (without_entry hash old) old result new
      → GivesUpAt result (Some (Locked (Foreign by) number))
  gives-foreign result by number true is h = (h.0, λ n same. h.1, λ other. absurd (other number own))
    where
      by-is : by ≡ node
      by-is = grind (arith, is)

      own : BeingMade (Foreign by) number ≡ BeingMade (Foreign node) number
      own = rw by-is refl
  gives-foreign result by number false is h = (h.0, λ n same. absurd (differ (by-is n same)), λ other. h.1)
    where
      by-is : (n : ℕ) → BeingMade (Foreign by) number ≡ BeingMade (Foreign node) n → by ≡ node
      by-is n same = cc

      differ : by ≡ node → ⊥
      differ same = grind (arith, is, same)

  gives-at : (result : Result (Unit {0}) AllocError) (entry : Option Entry)
      → Done (is_some (foreign_lock node entry)) (without_entry hash old) old result new → GivesUpAt result entry
  gives-at result None h = (h.0, λ n same. absurd (differ n same), λ other. h.1)
    where
      differ : (n : ℕ) → phase_by None segments ≡ BeingMade (Foreign node) n → ⊥
      differ n same = cc
  gives-at result (Some (Described number bytes)) h = (h.0, λ n same. absurd (differ (segment_at hash number old) n same), λ other. h.1)
    where
      differ : (found : Option Segment) (n : ℕ) → described_phase number bytes found ≡ BeingMade (Foreign node) n → ⊥
      differ (Some (segment.Open nodes)) n same = cc
      differ (Some (segment.Emptied by)) n same = cc
      differ None n same = cc
  gives-at result (Some (Locked (Own by) number)) h = (h.0, λ n same. absurd (differ n same), λ other. h.1)
    where
      differ : (n : ℕ) → BeingMade (Own by) number ≡ BeingMade (Foreign node) n → ⊥
      differ n same = cc
  gives-at result (Some (Locked (Foreign by) number)) h = gives-foreign result by number (nat_eq by node) refl h

pub gives-up : GivesUpItsOwn
gives-up hash node old new result h = gives-at hash node old new result (entry_at hash old) h

module _ (hash : ServiceHash) (node : ℕ) (old new : Contents) where
  abbrev RemovesAs : Phase → Type 0
  RemovesAs phase =
      ((number : ℕ) (bytes : List ℕ) → phase ≡ Emptied number bytes (Foreign node)
      → new ≡ without_segment hash number (without_entry hash old))
      × (((number : ℕ) (bytes : List ℕ) → phase ≡ Emptied number bytes (Foreign node) → ⊥) → new ≡ old)

  removes-foreign : (by number : ℕ) (bytes : List ℕ) (b : Bool) → nat_eq by node ≡ b
      → new ≡ cond b (without_segment hash number (without_entry hash old)) old
      → RemovesAs (Emptied number bytes (Foreign by))
  removes-foreign by number bytes true is h = (λ n text same. rw (← number-is n text same) h, λ other. absurd (other number bytes own))
    where
      number-is : (n : ℕ) (text : List ℕ) → Emptied number bytes (Foreign by) ≡ Emptied n text (Foreign node) → number ≡ n
      number-is n text same = cc

      by-is : by ≡ node
      by-is = grind (arith, is)

      own : Emptied number bytes (Foreign by) ≡ Emptied number bytes (Foreign node)
      own = rw by-is refl
  removes-foreign by number bytes false is h = (λ n text same. absurd (differ (by-is n text same)), λ other. h)
    where
      by-is : (n : ℕ) (text : List ℕ) → Emptied number bytes (Foreign by) ≡ Emptied n text (Foreign node) → by ≡ node
      by-is n text same = cc

      differ : by ≡ node → ⊥
      differ same = grind (arith, is, same)

  -- a phase that is none of a service that was emptied
  removes-nothing : (phase : Phase) → ((number : ℕ) (bytes : List ℕ) → phase ≡ Emptied number bytes (Foreign node) → ⊥) → new ≡ old
      → RemovesAs phase
  removes-nothing phase other h = (λ n text same. absurd (other n text same), λ _. h)

  removes-segment : (number : ℕ) (bytes : List ℕ) (found : Option Segment)
      → new ≡ cond (is_left_by node found) (without_segment hash number (without_entry hash old)) old
      → RemovesAs (described_phase number bytes found)
  removes-segment number bytes (Some (segment.Open nodes)) h = removes-nothing _ (λ n text same. differ n text same) h
    where
      differ : (n : ℕ) (text : List ℕ) → described_phase number bytes (Some (segment.Open nodes)) ≡ Emptied n text (Foreign node) → ⊥
      differ n text same = cc
  removes-segment number bytes None h = removes-nothing _ (λ n text same. differ n text same) h
    where
      differ : (n : ℕ) (text : List ℕ) → described_phase number bytes None ≡ Emptied n text (Foreign node) → ⊥
      differ n text same = cc
  removes-segment number bytes (Some (segment.Emptied (Own by))) h = removes-nothing _ (λ n text same. differ n text same) h
    where
      differ : (n : ℕ) (text : List ℕ) → Emptied number bytes (Own by) ≡ Emptied n text (Foreign node) → ⊥
      differ n text same = cc
  removes-segment number bytes (Some (segment.Emptied (Foreign by))) h = removes-foreign by number bytes (nat_eq by node) refl h

  removes-at : (entry : Option Entry) → new ≡ after_removal (published_number entry) hash node old
      → RemovesAs (phase_by entry (λ number. segment_at hash number old))
  removes-at None h = removes-nothing _ (λ n text same. differ n text same) h
    where
      differ : (n : ℕ) (text : List ℕ) → phase_by None (λ number. segment_at hash number old) ≡ Emptied n text (Foreign node) → ⊥
      differ n text same = cc
  removes-at (Some (Locked by number)) h = removes-nothing _ (λ n text same. differ n text same) h
    where
      differ : (n : ℕ) (text : List ℕ) → BeingMade by number ≡ Emptied n text (Foreign node) → ⊥
      differ n text same = cc
  removes-at (Some (Described number bytes)) h = removes-segment number bytes (segment_at hash number old) h

pub removes : RemovesItsOwn
removes hash node old new result h =
    let r = removes-at hash node old new (entry_at hash old) h.1 in (h.0, r.0, r.1)
