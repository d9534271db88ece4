-- No second answer satisfies the contract of a public function of this crate. Assumes nothing.
use Rattle.std.specs.Prelude.{◌≡◌}
use Rattle.std.proofs.Common.{sym, ◌∙◌}
use Rattle.journal_store.specs.declared.Head.{Head}
use Rattle.map_store.specs.declared.MapHead.{MapHead}
use Rattle.sample.specs.Sample.{journal_sample, map_sample}

pub journal_head_unique : (a b : Head) → a ≡ journal_sample → b ≡ journal_sample → a ≡ b
journal_head_unique a b p q = p ∙ sym q

pub map_head_unique : (a b : MapHead) → a ≡ map_sample → b ≡ map_sample → a ≡ b
map_head_unique a b p q = p ∙ sym q
