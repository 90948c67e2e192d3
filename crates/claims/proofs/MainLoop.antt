-- What is promised of the main loop holds. Assumes nothing.
use Rattle.mainloop.proofs.Accounts.{accounts}
use Rattle.mainloop.proofs.Late.{late}
use Rattle.mainloop.proofs.Story.{story}
use Rattle.claims.proofs.Sleep.{sleep}
use Rattle.claims.specs.MainLoop.{MainLoop}

pub main_loop : MainLoop
main_loop = record { sleep = sleep; accounts = accounts; late = late; story = story }
