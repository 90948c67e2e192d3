-- What is promised of the main loop in `mainloop`, a card with one interface. Assumes nothing.
use Rattle.mainloop.specs.Accounts.{Accounts}
use Rattle.mainloop.specs.Late.{Late}
use Rattle.mainloop.specs.Story.{Story}
use Rattle.claims.specs.Sleep.{Sleep}

pub record MainLoop : Type 0 where
  -- It may sleep until the time that a turn tells: that time is exact, and before it a turn by the timer finds nothing to do.
  pub sleep : Sleep
  -- No packet is lost in a turn, and none comes out twice.
  pub accounts : Accounts
  -- At a time that is too late a turn changes nothing.
  pub late : Late
  -- A packet's way, computed turn by turn.
  pub story : Story
