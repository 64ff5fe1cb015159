-- A table, read back, is its header and its rows.
use Rattle.std.proofs.Common.{◌≡◌, ◌∙◌, sym, refl, ap, ℕ, ◌+◌, List, [], ◌∷◌, ◌++◌, length, map, arith, suc}
use Rattle.std.specs.List.{flat_map}
use Rattle.csv.specs.Reading.{default_config, records_from}
use Rattle.csv.specs.Writing.{default_writer, read_back, row_text}
use Rattle.csv.specs.declared.parser.State.TheVariants as st
use Rattle.csv.proofs.RoundTrip.{rows_text, read-write-all}
use Rattle.example_tracer.specs.declared.exchange.Exchange.{Exchange}
use Rattle.example_tracer.specs.Record.{header, fields_of, table_of}

rows_read_back : (conversation : List Exchange) → map read_back (map fields_of conversation) ≡ map fields_of conversation
rows_read_back [] = refl
rows_read_back (it ∷ rest) = ap (λ (rows : List (List (List ℕ))). fields_of it ∷ rows) (rows_read_back rest)

rows_of : (conversation : List Exchange)
    → rows_text (map fields_of conversation) ≡ flat_map (λ it. row_text default_writer (fields_of it)) conversation
unfolding rows_text
rows_of [] = refl
rows_of (it ∷ rest) = ap (λ (text : List ℕ). row_text default_writer (fields_of it) ++ text) (rows_of rest)

table_rows : (conversation : List Exchange) → rows_text (header ∷ map fields_of conversation) ≡ table_of conversation
unfolding rows_text
table_rows conversation = ap (λ (text : List ℕ). row_text default_writer header ++ text) (rows_of conversation)

each_once : (conversation : List Exchange) → length (map fields_of conversation) ≡ length conversation
each_once [] = refl
each_once (it ∷ rest) = ap suc (each_once rest)

counted : (conversation : List Exchange) → length (header ∷ map fields_of conversation) ≡ length conversation + 1
counted conversation = omega (arith, each_once conversation)

pub reads_back : (conversation : List Exchange)
    → records_from default_config (length conversation + 1) st.StartRecord (table_of conversation) ≡ header ∷ map fields_of conversation
reads_back conversation =
    ap (λ (n : ℕ). records_from default_config n st.StartRecord (table_of conversation)) (sym (counted conversation))
    ∙ ap (λ (text : List ℕ). records_from default_config (length (header ∷ map fields_of conversation)) st.StartRecord text)
    (sym (table_rows conversation))
    ∙ read-write-all (header ∷ map fields_of conversation)
    ∙ ap (λ (rows : List (List (List ℕ))). header ∷ rows) (rows_read_back conversation)
