-- None: nothing is passed. Assumes nothing.
use Rattle.receiver_stretch_start_end.proofs.WholeTexts.{none_passed}
use Rattle.receiver_stretch_start_end.proofs.whole.text_ahead.Goals as goal

pub returns-in-None : goal.returns-in-None
returns-in-None c g = none_passed c.args.s c.args.bytes.now g c.in-None.ensures
