mod SignLemmas
