-- The bytes are those of the text with zeros past it, so the tableau is the one that spells it.
use Rattle.std.proofs.Common.{refl}
use Rattle.rewriting.proofs.Padded.{spelt_is}
use Rattle.rewriting.proofs.spelling.RewritingTableauTryFromRefSliceU8.try_from.Goals as goal

pub returns : goal.returns
returns c = let made = c.in_ok-text.ensures in (made.0, spelt_is _ 0 48 c.args.text.now refl made.2 made.1)
