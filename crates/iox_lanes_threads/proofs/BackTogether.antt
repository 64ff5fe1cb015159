-- Ports come to one seat one after the other, and leave their lanes.
use Rattle.std.proofs.Common.{ℕ, ◌≡◌, List, [], ◌∷◌, ◌++◌, map, ◌∙◌, ap, append_assoc}
use Rattle.std.specs.List.{All}
use Rattle.std.proofs.lemmas.List.Elements.{All-tail}
use Rattle.atomic_table.specs.Seated.{TableId}
use Rattle.iox_lanes_threads_ports.specs.LanesThreadsRule.declared.view.Port.{Port}
use Rattle.iox_lanes_threads.proofs.Leaving.{Left, leaves}

-- some came, and those of the rest step on the same words
pub record Came {X Y : Type 0} (lane_of : X → Y) (port_of : X → Port) (table_of : X → TableId) (words now : TableId)
    (start ports : List Port) (done : List Y) (rest all : List X) (capacity : ℕ) : Type 0 where
  pub left : Left lane_of done rest all capacity
  pub same : now ≡ words
  pub are : ports ++ map port_of rest ≡ start ++ map port_of all
  pub tables : All (λ x. table_of x ≡ words) rest

pub comes_too : {X Y : Type 0} (lane_of : X → Y) (port_of : X → Port) (table_of : X → TableId) (words now now' : TableId)
    (start ports ports' : List Port) (done done' : List Y) (x : X) (rest all : List X) (capacity : ℕ)
    → Came lane_of port_of table_of words now start ports done (x ∷ rest) all capacity
    → now' ≡ now → ports' ≡ ports ++ port_of x ∷ [] → done' ≡ done ++ lane_of x ∷ []
    → Came lane_of port_of table_of words now' start ports' done' rest all capacity
comes_too {X} {Y} lane_of port_of table_of words now now' start ports ports' done done' x rest all capacity k still came left = record {
  left = leaves lane_of done done' x rest all capacity k.left left;
  same = still ∙ k.same;
  are = ap (λ (ys : List Port). ys ++ map port_of rest) came ∙ append_assoc ports (port_of x ∷ []) (map port_of rest) ∙ k.are;
  tables = All-tail (λ y. table_of y ≡ words) x rest k.tables;
}
