-- `sizes_ok` meets its contract: both tests, one after the other. Assumes nothing.
use Rattle.std.proofs.Common.{length}
use borrow.Author.Tests.{le-leb, lt-leb}
use Rattle.logfile.specs.LogFile.{sizes_ok}
use Rattle.logfile.proofs.sizes_ok.Goals as goal

pub returns-then-text-le-LOG_BYTES : goal.returns-then-text-le-LOG_BYTES
unfolding sizes_ok
returns-then-text-le-LOG_BYTES c = rw (le-leb (length c.args.text.now) 524288 c.if-text-le-LOG_BYTES.true)

pub returns-else-text-le-LOG_BYTES : goal.returns-else-text-le-LOG_BYTES
unfolding sizes_ok
returns-else-text-le-LOG_BYTES c = rw (lt-leb (length c.args.text.now) 524288 c.if-text-le-LOG_BYTES.false)
