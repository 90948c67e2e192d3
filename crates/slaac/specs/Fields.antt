-- SLAAC with another value in one of its fields, and all else as it was: the rules are made of these. Assumes nothing.
use Rattle.std.specs.Prelude.{ℕ, Bool, List}
use Rattle.slaac.specs.declared.Prefix.{Prefix}
use Rattle.slaac.specs.declared.Router.{Router}
use Rattle.slaac.specs.declared.Discovery.{Discovery}
use Rattle.slaac.specs.declared.SlaacState.{SlaacState}
use Rattle.slaac.specs.declared.Slaac.{Slaac}

-- a table is its slots and its count

abbrev pub with_prefixes : Slaac → List Prefix → ℕ → Slaac
with_prefixes s slots count =
    record {
      on = s.on;
      prefixes = slots;
      prefix_count = count;
      routers = s.routers;
      router_count = s.router_count;
      discovery = s.discovery;
      sync_required = s.sync_required;
      state = s.state;
    }

abbrev pub with_routers : Slaac → List Router → ℕ → Slaac
with_routers s slots count =
    record {
      on = s.on;
      prefixes = s.prefixes;
      prefix_count = s.prefix_count;
      routers = slots;
      router_count = count;
      discovery = s.discovery;
      sync_required = s.sync_required;
      state = s.state;
    }

abbrev pub with_discovery : Slaac → Discovery → Slaac
with_discovery s discovery =
    record {
      on = s.on;
      prefixes = s.prefixes;
      prefix_count = s.prefix_count;
      routers = s.routers;
      router_count = s.router_count;
      discovery = discovery;
      sync_required = s.sync_required;
      state = s.state;
    }

-- a sync asked for, or not
abbrev pub with_sync : Slaac → Bool → Slaac
with_sync s sync =
    record {
      on = s.on;
      prefixes = s.prefixes;
      prefix_count = s.prefix_count;
      routers = s.routers;
      router_count = s.router_count;
      discovery = s.discovery;
      sync_required = sync;
      state = s.state;
    }

abbrev pub with_state : Slaac → SlaacState → Slaac
with_state s state =
    record {
      on = s.on;
      prefixes = s.prefixes;
      prefix_count = s.prefix_count;
      routers = s.routers;
      router_count = s.router_count;
      discovery = s.discovery;
      sync_required = s.sync_required;
      state = state;
    }
