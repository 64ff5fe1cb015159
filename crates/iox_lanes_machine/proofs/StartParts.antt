-- Lanes whose parts are those of lanes as they are made are such lanes.
use Rattle.std.proofs.Common.{ℕ, ◌≡◌, suc, ◌+◌, List, [], ◌∷◌, ◌++◌, replicate, ◌∙◌, ap, subst, arith}
use Rattle.iox_lanes_machine.specs.QueuesSteps.declared.order.Placed.{Placed}
use Rattle.iox_lanes_machine.specs.LanesBase.Numbers.{words_of}
use Rattle.iox_lanes_machine.specs.LanesBase.Table.{TableWords}
use Rattle.iox_lanes_machine.specs.LanesBase.declared.words.sizes.TableSizes.{TableSizes}
use Rattle.iox_lanes_machine.specs.LanesParties.Parties.{PublisherLaneState, SubscriberLaneState}
use Rattle.iox_lanes_machine.specs.LanesParties.declared.call.FinishedCall.{FinishedCall}
use Rattle.iox_lanes_machine.specs.Links.{LinkState}
use Rattle.iox_lanes_machine.specs.Made.{listed, link_at, publisher_at, subscriber_at, start, table_sizes}
use Rattle.iox_lanes_machine.specs.World.{World}
use Rattle.iox_lanes_machine.specs.declared.sizes.LaneSizes.{LaneSizes}

-- the parts of lanes, each as it is made
pub record IsMade (sizes : LaneSizes) (table : TableSizes) (m : World) : Type 0 where
  pub words : m.table ≡ record { sizes = table; words = replicate (words_of table) 0 }
  pub links : m.links ≡ listed (link_at sizes) table.connections
  pub publishers : m.publishers ≡ listed (publisher_at sizes) sizes.publishers
  pub subscribers : m.subscribers ≡ listed (subscriber_at sizes) sizes.subscribers
  pub orders : m.orders ≡ listed (λ connection. []) table.connections
  pub moments : m.moments ≡ 0
  pub finished : m.finished ≡ []
  pub read : m.read ≡ []

made_of : (sizes : LaneSizes) (m : World) → IsMade sizes (table_sizes sizes) m → m ≡ start sizes
made_of sizes m is =
    ap (λ (x : TableWords). record m { table = x }) is.words
    ∙ ap (λ (x : List LinkState). record m { table = (start sizes).table; links = x }) is.links
    ∙ ap (λ (x : List PublisherLaneState). record m { table = (start sizes).table; links = (start sizes).links; publishers = x })
    is.publishers
    ∙ ap (λ (x : List SubscriberLaneState). record (start sizes) {
      subscribers = x;
      orders = m.orders;
      moments = m.moments;
      finished = m.finished;
      read = m.read;
    }) is.subscribers
    ∙ ap (λ (x : List (List Placed)). record (start sizes) { orders = x; moments = m.moments; finished = m.finished; read = m.read })
    is.orders
    ∙ ap (λ (x : ℕ). record (start sizes) { moments = x; finished = m.finished; read = m.read }) is.moments
    ∙ ap (λ (x : List FinishedCall). record (start sizes) { finished = x; read = m.read }) is.finished
    ∙ ap (λ (x : List ℕ). record (start sizes) { read = x }) is.read

pub made_is : (sizes : LaneSizes) (table : TableSizes) (m : World) → table ≡ table_sizes sizes → IsMade sizes table m → m ≡ start sizes
made_is sizes table m e is = made_of sizes m (subst (λ (t : TableSizes). IsMade sizes t m) e is)

-- one value more
pub listed_more : {X : Type 0} (f : ℕ → X) (n : ℕ) (xs ys : List X) (x : X) → xs ≡ listed f n → x ≡ f n → ys ≡ xs ++ x ∷ []
    → ys ≡ listed f (n + 1)
listed_more {X} f n xs ys x e h g =
    let next : suc n ≡ n + 1 = omega arith in
    g ∙ ap (λ (l : List X). l ++ x ∷ []) e ∙ ap (λ (y : X). listed f n ++ y ∷ []) h ∙ ap (λ (k : ℕ). listed f k) next
