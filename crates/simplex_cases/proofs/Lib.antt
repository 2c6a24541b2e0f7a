mod SmallLemmas
