use Rattle.sre_code.proofs.AsciiMembers.{charset_holds}
use Rattle.sre_machine.proofs.set_members.charset.Goals as goal

pub returns : goal.returns
returns c = charset_holds c.args.words.now c.args.place _ c.requires c.ascii_bits.ensures
