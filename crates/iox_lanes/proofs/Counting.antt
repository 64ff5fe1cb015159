-- Lanes that were made of sizes and found what they found have as many ports, connections and words as these sizes say, and each
-- connection leads from its publisher to its subscriber.
use Rattle.std.proofs.Common.{ℕ, ◌≡◌, ◌+◌, ◌*◌, ◌/◌, ◌%◌, ◌<◌, true, List, [], ◌∷◌, length, slice_get, Option, Some, None, refl, sym, ◌∙◌}
use Rattle.std.proofs.Common.{ap, subst}
use Rattle.std.proofs.lemmas.Nat.{div-mul-add, mod-mul-add}
use Rattle.iox_domain_values.specs.declared.service_sizes.ServiceSizes.{ServiceSizes}
use Rattle.iox_lanes_machine.specs.LanesBase.declared.words.sizes.TableSizes.{TableSizes}
use Rattle.iox_lanes_machine.specs.QueuesSteps.declared.order.Placed.{Placed}
use Rattle.iox_lanes_machine.specs.Findings.{with_found, AreFound}
use Rattle.iox_lanes_machine.specs.Kept.{IsKept}
use Rattle.iox_lanes_machine.specs.Links.{LinkState}
use Rattle.iox_lanes_machine.specs.Made.{link_at, publisher_at, subscriber_at, start, table_sizes}
use Rattle.iox_lanes_machine.specs.TakenIn.{IsTakenIn, link_with, more_messages, new_buffer}
use Rattle.iox_lanes_machine.specs.World.{World}
use Rattle.iox_lanes_machine.specs.declared.found.Found.{Found}
use Rattle.iox_lanes_machine.specs.declared.sizes.LaneSizes.{LaneSizes}
use Rattle.iox_lanes_machine.proofs.Ends.{some_is}
use Rattle.iox_lanes_machine.proofs.FoundKeptWhole.{all_found}
use Rattle.iox_lanes_machine.proofs.Start.{listed_is, listed_length}
use Rattle.iox_lanes_machine.proofs.StartUses.{start_kept}
use Rattle.iox_lanes_machine.proofs.TakenInPlaces.{takes_in}
use Rattle.iox_lanes.specs.Holding.{Leads}
use Rattle.iox_lanes.specs.Sized.{AreSized}

-- a connection is the one that was made under its number
record IsMadeAt (sizes : LaneSizes) (connection : ℕ) (link : LinkState) : Type 0 where
  pub from : link.publisher ≡ connection / sizes.subscribers
  pub to : link.subscriber ≡ connection % sizes.subscribers
  pub kind : link.kind ≡ sizes.kind

-- lanes have what was made of these sizes
record AreMade (sizes : LaneSizes) (m : World) : Type 0 where
  pub moments : m.moments ≡ 0
  pub table : m.table.sizes ≡ table_sizes sizes
  pub orders : length m.orders ≡ sizes.publishers * sizes.subscribers
  pub publishers : length m.publishers ≡ sizes.publishers
  pub subscribers : length m.subscribers ≡ sizes.subscribers
  pub links : (connection : ℕ) (link : LinkState) → slice_get m.links connection ≡ Some link → IsMadeAt sizes connection link

start_made : (sizes : LaneSizes) → AreMade sizes (start sizes)
start_made sizes = record {
  moments = refl;
  table = refl;
  orders = listed_length {X = List Placed} (λ connection. []) (sizes.publishers * sizes.subscribers);
  publishers = listed_length (publisher_at sizes) sizes.publishers;
  subscribers = listed_length (subscriber_at sizes) sizes.subscribers;
  links = λ connection link e.
      let is = (listed_is (link_at sizes) (sizes.publishers * sizes.subscribers) connection link e).1 in
      record {
        from = ap (λ (x : LinkState). x.publisher) is;
        to = ap (λ (x : LinkState). x.subscriber) is;
        kind = ap (λ (x : LinkState). x.kind) is;
      };
}

-- what a finding leaves of a connection
made_still : (sizes : LaneSizes) (connection : ℕ) (more : List ℕ) (buffer : Option ℕ) (at : Option LinkState) (link : LinkState)
    → Some link ≡ link_with more buffer at
    → ((was : LinkState) → at ≡ Some was → IsMadeAt sizes connection was) → IsMadeAt sizes connection link
made_still sizes connection more buffer None link e made = absurd (cc e)
made_still sizes connection more buffer (Some was) link e made =
    let is = some_is link _ e in
    let before = made was refl in
    record {
      from = ap (λ (x : LinkState). x.publisher) is ∙ before.from;
      to = ap (λ (x : LinkState). x.subscriber) is ∙ before.to;
      kind = ap (λ (x : LinkState). x.kind) is ∙ before.kind;
    }

taken_made : (sizes : LaneSizes) (m : World) (f : Found) (n : World) → IsTakenIn m f n → AreMade sizes m → AreMade sizes n
taken_made sizes m f n t k = record {
  moments = ap (λ (x : World). x.moments) t.same ∙ k.moments;
  table = ap (λ (x : World). x.table.sizes) t.same ∙ k.table;
  orders = ap (λ (x : World). length x.orders) t.same ∙ k.orders;
  publishers = t.as_many ∙ k.publishers;
  subscribers = t.as_many_receive ∙ k.subscribers;
  links = λ connection link e. made_still sizes connection (more_messages m f connection) (new_buffer m f connection)
      (slice_get m.links connection) link
      (sym e ∙ t.links connection) (k.links connection);
}

found_made : (sizes : LaneSizes) (m : World) (fs : List Found) (n : World) → AreFound m fs n → IsKept m → AreMade sizes m → AreMade sizes n
found_made sizes m [] n h kept k = subst (AreMade sizes) (sym h) k
found_made sizes m (f ∷ fs) n h kept k =
    found_made sizes (with_found m f) fs n h.1 (all_found m (f ∷ []) (with_found m f) (h.0, refl) kept)
    (taken_made sizes m f (with_found m f) (takes_in m f true (with_found m f) (h.0, refl) kept).1 k)

-- as many ports, connections and words, and nothing was done yet
pub record AreCounted (publishers subscribers payload_count header_count : ℕ) (m : World) : Type 0 where
  pub moments : m.moments ≡ 0
  pub payload : m.table.sizes.payload_words ≡ payload_count
  pub user_header : m.table.sizes.user_header_words ≡ header_count
  pub publisher_count : length m.publishers ≡ publishers
  pub subscriber_count : length m.subscribers ≡ subscribers
  pub link_count : length m.links ≡ publishers * subscribers

made_of : (agreed : ServiceSizes) (publishers subscribers payload header : ℕ) (m : World)
    (is : AreSized agreed publishers subscribers payload header m) → AreMade is.sizes m
made_of agreed publishers subscribers payload header m is =
    found_made is.sizes (start is.sizes) (is.found).found m (is.found).finds
    (start_kept is.sizes (is.found).some (is.found).ports (is.found).small) (start_made is.sizes)

pub are_counted : (agreed : ServiceSizes) (publishers subscribers payload header : ℕ) (m : World)
    → AreSized agreed publishers subscribers payload header m → AreCounted publishers subscribers payload header m
are_counted agreed publishers subscribers payload header m is =
    let made = made_of agreed publishers subscribers payload header m is in
    let kept : IsKept m = all_found (start is.sizes) (is.found).found m (is.found).finds
    (start_kept is.sizes (is.found).some (is.found).ports (is.found).small) in
    record {
      moments = made.moments;
      payload = ap (λ (t : TableSizes). t.payload_words) made.table ∙ (is.are_agreed).payload;
      user_header = ap (λ (t : TableSizes). t.user_header_words) made.table ∙ (is.are_agreed).user_header;
      publisher_count = made.publishers ∙ (is.are_agreed).as_many_publishers;
      subscriber_count = made.subscribers ∙ (is.are_agreed).as_many_subscribers;
      link_count = sym (kept.within).orders ∙ made.orders ∙ ap (λ (n : ℕ). n * (is.sizes).subscribers) (is.are_agreed).as_many_publishers
          ∙ ap (λ (n : ℕ). publishers * n) (is.are_agreed).as_many_subscribers;
    }

-- a connection leads from its publisher to its subscriber, and its full ring does what was agreed
pub leads_at : (agreed : ServiceSizes) (publishers subscribers payload header : ℕ) (m : World)
    → AreSized agreed publishers subscribers payload header m → (publisher subscriber : ℕ) → subscriber < subscribers
    → Leads agreed.enable_safe_overflow publisher subscriber (slice_get m.links (publisher * subscribers + subscriber))
leads_at agreed publishers subscribers payload header m is publisher subscriber below
    = by (slice_get m.links (publisher * subscribers + subscriber)) refl
  where
    made : AreMade is.sizes m
    made = made_of agreed publishers subscribers payload header m is

    by : (at : Option LinkState) → slice_get m.links (publisher * subscribers + subscriber) ≡ at
        → Leads agreed.enable_safe_overflow publisher subscriber at
    by None e = tt
    by (Some link) e =
        let at = made.links (publisher * subscribers + subscriber) link e in (
          at.from ∙ ap (λ (n : ℕ). (publisher * subscribers + subscriber) / n) (is.are_agreed).as_many_subscribers ∙ div-mul-add
              publisher subscribers subscriber below,
          at.to ∙ ap (λ (n : ℕ). (publisher * subscribers + subscriber) % n) (is.are_agreed).as_many_subscribers ∙ mod-mul-add publisher
              subscribers subscriber below,
          at.kind ∙ (is.are_agreed).kind,
        )
