-- The numbers of a configuration as the model takes them.
use Rattle.topic_name.specs.declared.config.Config.{Config}
use Rattle.topic_model.specs.Profile.{Config as Numbers}

abbrev pub plain_config : Config → Numbers
plain_config config =
    record {
      shards = config.shards;
      workers = config.workers;
      top = config.top;
      below = config.below;
      messages = config.messages;
      retention = config.retention;
    }
