mod Sets
