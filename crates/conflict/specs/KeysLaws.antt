-- Laws of the keys that columns hold. Assumes nothing.
use Rattle.std.specs.Prelude.{◌≡◌, refl, Bool, true, false, cond, List, [], ◌∷◌, ℕ, eqb, take}
use Rattle.std.proofs.Common.{◌∙◌}
use Rattle.rules.specs.declared.Record.{Record}
use Rattle.rules.specs.Bools.{split}
use Rattle.rules.specs.Kinds.{is_assign}
use Rattle.rules.specs.Effects.{assigns}
use Rattle.rules.specs.Transactions.{any, of, wrote, keys_written}
use Rattle.rules.specs.Running.{wrote_among}
use Rattle.rules.specs.Lists.{among}
use Rattle.journal.specs.Gathered.{Gathered}
use Rattle.journal.specs.GatheredLaws.{gathered_none, gathered_among}
use Rattle.conflict.specs.Keys.{assigns_of, counting, new_key}

-- a key stands in a column filled exactly if it was written
pub keys_held : (own : List Record) (i count : ℕ) (entry column : List ℕ) → Gathered (keys_written own) i count entry column → (k : ℕ)
    → among k (take count column) ≡ wrote k own
keys_held own i count entry column h k = gathered_among (keys_written own) i count entry column h k ∙ wrote_among k own

-- no keys yet
pub keys_none : (adds : Bool) (column : List ℕ) → Gathered (keys_written (counting adds [])) 0 0 column column
keys_none true column = gathered_none column
keys_none false column = gathered_none column

-- a record's turn for the keys of a transaction
pub keys_more : (n : ℕ) (adds : Bool) (keys : List ℕ) (r : Record) (rs : List Record) → among r.key keys ≡ wrote r.key (counting adds (of n rs))
    → keys_written (counting adds (of n (r ∷ rs)))
    ≡ cond (new_key n adds keys r) (r.key ∷ keys_written (counting adds (of n rs))) (keys_written (counting adds (of n rs)))
keys_more n true keys r rs h = rw h (split (eqb r.transaction n) (λ e. rw e) (λ e. rw e))
keys_more n false keys r rs h =
    rw h (split (eqb r.transaction n) (λ e. split (is_assign r) (λ a. rw (e, a, a)) (λ a. rw (e, a))) (λ e. rw e))

-- a key is written by the assigns exactly if it is assigned
pub wrote_assigned : (k : ℕ) (own : List Record) → wrote k (assigns_of own) ≡ any (assigns k) own
wrote_assigned k [] = refl
wrote_assigned k (r ∷ own) = split (is_assign r) (λ a. rw (a, a, wrote_assigned k own)) (λ a. rw (a, wrote_assigned k own))
