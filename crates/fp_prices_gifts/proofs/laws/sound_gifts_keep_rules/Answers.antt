use Rattle.fp_prices_gifts.proofs.GiftBounds.{sound_gifts-keep_rules}
use Rattle.fp_prices_gifts.proofs.laws.sound_gifts_keep_rules.Goals as goal

pub returns : goal.returns
returns c = sound_gifts-keep_rules
